use Rattle.{mg_disk.specs.Disk.Image, mg_model.specs.{Rights.has_right, declared.rights.Right.TheVariants.R}, mg_show.proofs.Learning.found_list}
use Rattle.mg_show.proofs.{Learning.{found_none, learns_then}, Walking.listed-next, marks.go_on.Goals.{else-ranks-i, then-ranks-i}}
use Rattle.std.{proofs.Common.{◌≡◌, ℕ, List, arith, sym, ◌∙◌, slice_index}, specs.Prelude.{◌&&◌, ◌==◌, Bool, true, false}}
use Rattle.mg_show.proofs.marks.go_on.Goals as goal

pub loop-i-preserved : goal.loop-i-preserved
loop-i-preserved g c =
    let i = c.loop-i.i in
    let old = c.loop-i.ranks in
    let test : (slice_index old i == c.args.last && c.has_r.result) ≡ (slice_index old i == c.args.last && has_right (slice_index c.args.bytes.now i) R) =
    λ k. slice_index old i == c.args.last && c.has_r.ensures k in
    let next = λ (r : Image) (v : Bool) (new : List ℕ) (is : v ≡ (slice_index old i == c.args.last && c.has_r.result)).
    listed-next c.args.shown.now r c.args.bytes.now c.args.ranks.now c.args.last i c.row-row.result.now v old new c.requires.some (omega arith) c.row-row.ensures (is ∙ test) in
    elim c.if-ranks-i.branch [
      | then-ranks-i w ↦
          let found = found_list g.D.Disk w.as_slice.result.now w.list_of-list.result w.as_slice.ensures.value w.list_of-list.ensures w.rank.ensures in
          rw (w.ranks-is, w.disk-is, w.out-is) (record {
            learns = learns_then g.D.Disk (λ r. next r true w.rank.new.ranks (sym w.if-ranks-i.true)) c.loop-i.invariant.learns found.learns;
            long = found.long ∙ c.loop-i.invariant.long;
          })
      | else-ranks-i w ↦
          rw (w.ranks-is, w.disk-is, w.out-is) (record {
            learns =
                learns_then g.D.Disk (λ r. next r false old (sym w.if-ranks-i.false)) c.loop-i.invariant.learns
                (found_none g.D.Disk c.loop-i.disk old c.loop-i.out (g.met.D.Disk.now_has_been c.loop-i.disk)).learns;
            long = c.loop-i.invariant.long;
          })
    ]

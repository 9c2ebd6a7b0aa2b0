use Rattle.{mg_disk.specs.Disk.Image, mg_model.specs.{Rights.has_right, declared.{rights.Right.TheVariants.R, slots.Slot.Slot}}}
use Rattle.mg_show.{proofs.{ByPlaces.places-next, graph.put_lists.Goals.{else-is_within-has_r, then-is_within-has_r}}, specs.Drawn.entries_drawn}
use Rattle.mg_show.specs.{Drawn.lists_ranked, Marking.{named_by, is_within}, Reached.listed, WritingLemmas.{of_behind, of_all, of_put, of_same}}
use Rattle.{mg_show.specs.WritingLemmas.{of_then, puts_none}, std.proofs.Common.{◌≡◌, ◌∙◌, ℕ, List, ap, sym, arith, slice_index}}
use Rattle.std.specs.Prelude.{◌&&◌, Bool, true, false}
use Rattle.mg_show.proofs.graph.put_lists.Goals as goal

pub loop-i-init : goal.loop-i-init
loop-i-init g c = of_put g.D.Disk g.K.Sink (g.met.D.Disk.now_has_been c.args.disk.now) (puts_none g.K.Sink c.args.sink.now c.args.out.now)

pub loop-i-preserved : goal.loop-i-preserved
loop-i-preserved g c =
    let shown = c.args.shown.now in
    let row = c.row-row.result.now in
    let is_left = λ (i : ℕ). is_within (slice_index c.args.ranks.now i) c.args.steps && has_right (slice_index c.args.bytes.now i) R in
    let test : (c.is_within.result && c.has_r.result) ≡ is_left c.loop-i.i = λ k. c.is_within.ensures k && c.has_r.ensures k in
    let next = λ (r : Image) (v : Bool) (is : v ≡ is_left c.loop-i.i). places-next (λ i row. entries_drawn shown row.base (listed shown r row)) is_left shown.objects c.loop-i.i
    (omega arith) row c.row-row.ensures v is in
    elim c.if-is_within-has_r.branch [
      | then-is_within-has_r w ↦ rw (w.disk-is, w.out-is, w.sink-is) (of_same g.D.Disk g.K.Sink (λ r. next r true (sym w.if-is_within-has_r.true ∙ test))
          (of_then g.D.Disk g.K.Sink c.loop-i.invariant (of_behind g.D.Disk g.K.Sink w.list_of-list.ensures.reads w.put_entries.ensures
          (λ none r told. ap (λ (slots : List Slot). entries_drawn shown w.base.result (named_by slots)) w.as_slice.ensures.value
          ∙ (λ k. entries_drawn shown (w.base.ensures.value k) (w.list_of-list.ensures.is none r told k))))))
      | else-is_within-has_r w ↦ rw (w.disk-is, w.out-is, w.sink-is) (of_same g.D.Disk g.K.Sink (λ r. next r false (sym w.if-is_within-has_r.false ∙ test))
          (of_then g.D.Disk g.K.Sink c.loop-i.invariant (of_put g.D.Disk g.K.Sink (g.met.D.Disk.now_has_been c.loop-i.disk) (puts_none g.K.Sink c.loop-i.sink c.loop-i.out))))
    ]

pub returns : goal.returns
returns g c =
    of_all g.D.Disk g.K.Sink (λ r. lists_ranked c.args.shown.now r c.args.steps c.args.bytes.now c.args.ranks.now) c.args.shown.now.objects
    c.loop-i.i (omega arith) c.loop-i.invariant

use Rattle.{mg_model.specs.{Rights.has_right, declared.rights.Right.TheVariants.R}, mg_show.proofs.ByPlaces.places-next}
use Rattle.mg_show.{proofs.graph.put_nodes.Goals.{else-is_within, then-is_within}, specs.{DotText.object_node, Drawn.shape, Marking.is_within}}
use Rattle.{mg_show.specs.WritingLemmas.{puts_none, puts_same, puts_then}, std.proofs.Common.{◌+◌, ◌∙◌, ◌≡◌, sym, arith, slice_index}}
use Rattle.std.specs.Prelude.{Bool, true, false}
use Rattle.mg_show.proofs.graph.put_nodes.Goals as goal

pub loop-i-preserved : goal.loop-i-preserved
loop-i-preserved g c =
    let row = c.row-row.result.now in
    let next = λ (v : Bool) (is : v ≡ c.is_within.result). places-next (λ i row. object_node (shape (has_right (slice_index c.args.bytes.now i) R)) row)
    (λ i. is_within (slice_index c.args.ranks.now i) (c.args.steps + 1)) c.args.shown.now.objects c.loop-i.i (omega arith) row c.row-row.ensures v (is ∙ c.is_within.ensures) in
    elim c.if-is_within.branch [
      | then-is_within w ↦ rw (w.out-is, w.sink-is) (puts_same g.K.Sink (next true (sym w.if-is_within.true))
          (puts_then g.K.Sink c.loop-i.invariant (puts_same g.K.Sink (w.print_object_node.ensures ∙ (λ k. object_node (shape (w.has_r.ensures k)) row)) w.line.ensures)))
      | else-is_within w ↦ rw (w.out-is, w.sink-is) (puts_same g.K.Sink (next false (sym w.if-is_within.false))
          (puts_then g.K.Sink c.loop-i.invariant (puts_none g.K.Sink c.loop-i.sink c.loop-i.out)))
    ]

use Rattle.{mg_model.specs.declared.slots.Slot.Slot, mg_show.proofs.Drawing.{entries-more, entry-drawn, entry-none}}
use Rattle.mg_show.{proofs.graph.put_entries.Goals.{else-slot-ne0, then-slot-ne0}, specs.{Shown.bare, WritingLemmas.{puts_none, puts_same}}}
use Rattle.{mg_show.specs.WritingLemmas.puts_then, std.proofs.{Common.{◌∙◌, arith, get_or}, lemmas.Bool.ne_eqb}}
use Rattle.mg_show.proofs.graph.put_entries.Goals as goal

pub loop-slot-preserved : goal.loop-slot-preserved
loop-slot-preserved g c =
    let state = bare c.args.shown.now in
    let none : Slot = record { base = 0; password = 0 } in
    let slot = get_or c.args.slots.now c.loop-slot.slot-index none in
    elim c.if-slot-ne0.branch [
      | then-slot-ne0 w ↦ rw (w.out-is, w.sink-is) (puts_same g.K.Sink (entries-more c.args.shown.now c.args.list c.args.slots.now c.loop-slot.slot-index none _ (omega arith)
          (w.print_entry_arrow.ensures ∙ entry-drawn state slot.base slot.password w.rights_on-bits.result w.rights_on-bits.ensures c.args.list (ne_eqb slot.base 0 w.if-slot-ne0.true)))
          (puts_then g.K.Sink c.loop-slot.invariant w.line.ensures))
      | else-slot-ne0 w ↦ rw (w.out-is, w.sink-is) (puts_same g.K.Sink (entries-more c.args.shown.now c.args.list c.args.slots.now c.loop-slot.slot-index none _ (omega arith)
          (entry-none state slot.base slot.password c.args.list w.if-slot-ne0.false)) (puts_then g.K.Sink c.loop-slot.invariant (puts_none g.K.Sink c.loop-slot.sink c.loop-slot.out)))
    ]

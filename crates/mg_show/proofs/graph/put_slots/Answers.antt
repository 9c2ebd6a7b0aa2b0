use Rattle.{mg_model.specs.declared.slots.Slot.Slot, mg_show.{proofs.Drawing.slot-drawn, specs.{DotText.slot_arrow, Shown.bare}}}
use Rattle.{mg_show.specs.WritingLemmas.{flat_more, puts_same, puts_then}, std.proofs.Common.{arith, ◌∙◌, get_or}}
use Rattle.mg_show.proofs.graph.put_slots.Goals as goal

pub loop-slot-preserved : goal.loop-slot-preserved
loop-slot-preserved g c =
    let state = bare c.args.shown.now in
    let none : Slot = record { base = 0; password = 0 } in
    let slot = get_or c.args.slots.now c.loop-slot.slot-index none in
    puts_same g.K.Sink (flat_more (slot_arrow state c.args.thread) c.args.slots.now c.loop-slot.slot-index none (omega arith))
    (puts_then g.K.Sink c.loop-slot.invariant (puts_same g.K.Sink (c.print_slot_arrow.ensures
    ∙ slot-drawn state slot.base slot.password c.rights_on-bits.result c.rights_on-bits.ensures c.args.thread) c.line.ensures))

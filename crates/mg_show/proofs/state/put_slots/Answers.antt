use Rattle.{mg_show.specs.{StateText.slot_text, WritingLemmas.{flat_more, puts_same, puts_then}}, std.proofs.Common.{arith, codes}}
use Rattle.mg_show.proofs.state.put_slots.Goals as goal

pub loop-slot-preserved : goal.loop-slot-preserved
loop-slot-preserved g c = puts_same g.K.Sink (flat_more (slot_text (codes "slot")) c.args.slots.now c.loop-slot.slot-index (record { base = 0; password = 0 }) (omega arith)) (puts_then g.K.Sink c.loop-slot.invariant (puts_same g.K.Sink c.print_words.ensures c.line.ensures))

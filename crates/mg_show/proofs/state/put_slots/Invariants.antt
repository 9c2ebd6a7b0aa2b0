use Rattle.{mg_show.specs.{StateText.slot_text, Writing.Puts}, std.proofs.Common.{codes, take, flat_map}}
use Rattle.mg_show.proofs.state.put_slots.Given as goal

abbrev pub invariant-loop-slot : goal.invariant-loop-slot
invariant-loop-slot g l = Puts g.K.Sink (flat_map (slot_text (codes "slot")) (take l.slot-index l.slots)) l.initial.sink l.sink l.initial.out l.out

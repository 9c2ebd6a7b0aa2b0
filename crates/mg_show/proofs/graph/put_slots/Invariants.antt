use Rattle.{mg_show.specs.{DotText.slot_arrow, Shown.bare, Writing.Puts}, std.proofs.Common.{flat_map, take}}
use Rattle.mg_show.proofs.graph.put_slots.Given as goal

abbrev pub invariant-loop-slot : goal.invariant-loop-slot
invariant-loop-slot g l =
    Puts g.K.Sink (flat_map (slot_arrow (bare l.shown) l.thread) (take l.slot-index l.slots)) l.initial.sink l.sink l.initial.out l.out

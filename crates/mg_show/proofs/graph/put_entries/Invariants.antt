use Rattle.{mg_show.specs.{Drawn.entries_drawn, Marking.named_by, Writing.Puts}, std.proofs.Common.take}
use Rattle.mg_show.proofs.graph.put_entries.Given as goal

-- the entries before this one are put
abbrev pub invariant-loop-slot : goal.invariant-loop-slot
invariant-loop-slot g l =
    Puts g.K.Sink (entries_drawn l.shown l.list (named_by (take l.slot-index l.slots))) l.initial.sink l.sink l.initial.out l.out

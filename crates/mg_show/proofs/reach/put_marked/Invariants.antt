use Rattle.{mg_show.specs.{Reached.marked_reach, Writing.Puts}, std.proofs.Common.take}
use Rattle.mg_show.proofs.reach.put_marked.Given as goal

abbrev pub invariant-loop-i : goal.invariant-loop-i
invariant-loop-i g l = Puts g.K.Sink (marked_reach l.thread l.bytes (take l.i l.shown.objects)) l.initial.sink l.sink l.initial.out l.out

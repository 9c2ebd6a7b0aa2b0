use Rattle.{mg_show.specs.{Drawn.nodes_ranked, Writing.Puts}, std.proofs.Common.take}
use Rattle.mg_show.proofs.graph.put_nodes.Given as goal

abbrev pub invariant-loop-i : goal.invariant-loop-i
invariant-loop-i g l = Puts g.K.Sink (nodes_ranked l.steps l.bytes l.ranks (take l.i l.shown.objects)) l.initial.sink l.sink l.initial.out l.out

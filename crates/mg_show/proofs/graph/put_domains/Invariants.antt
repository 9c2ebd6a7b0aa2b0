use Rattle.{mg_show.specs.{Drawn.domains_drawn, Writing.Puts}, std.proofs.Common.take}
use Rattle.mg_show.proofs.graph.put_domains.Given as goal

abbrev pub invariant-loop-t : goal.invariant-loop-t
invariant-loop-t g l = Puts g.K.Sink (domains_drawn l.shown (take l.t-index l.threads)) l.initial.sink l.sink l.initial.out l.out

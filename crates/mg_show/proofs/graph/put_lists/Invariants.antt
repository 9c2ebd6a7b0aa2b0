use Rattle.{mg_show.specs.{Drawn.lists_ranked, Shown.held_in, Writing.PutsOf}, std.proofs.Common.take}
use Rattle.mg_show.proofs.graph.put_lists.Given as goal

-- the arrows of the lists before this one are put
abbrev pub invariant-loop-i : goal.invariant-loop-i
invariant-loop-i g l =
    PutsOf g.D.Disk g.K.Sink (held_in l.shown)
    (λ r. lists_ranked l.shown r l.steps l.bytes l.ranks (take l.i l.shown.objects)) l.initial.disk l.disk l.initial.sink l.sink
    l.initial.out l.out

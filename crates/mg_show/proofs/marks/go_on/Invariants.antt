use Rattle.{mg_show.specs.{Marking.{Finds, gives_rank, is_within}, Shown.held_in, Walked.listed_at}, std.proofs.Common.{◌+◌, take}}
use Rattle.mg_show.proofs.marks.go_on.Given as goal

-- what the lists before this one name has its rank
abbrev pub invariant-loop-i : goal.invariant-loop-i
invariant-loop-i g l =
    Finds g.D.Disk (held_in l.shown) is_within (gives_rank (l.last + 1)) l.shown.objects
    (λ r. listed_at l.shown r l.bytes l.initial.ranks l.last (take l.i l.shown.objects)) l.initial.disk l.disk l.initial.ranks l.ranks
    l.initial.out l.out

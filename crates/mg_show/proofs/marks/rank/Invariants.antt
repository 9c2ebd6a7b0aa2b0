use Rattle.{mg_show.specs.Marking.{Marks, gives_rank, is_within, named_by}, std.proofs.Common.take}
use Rattle.mg_show.proofs.marks.rank.Given as goal

-- the objects that the capabilities before this one name have the rank
abbrev pub invariant-loop-slot : goal.invariant-loop-slot
invariant-loop-slot l =
    Marks is_within (gives_rank l.rank) l.shown.objects (named_by (take l.slot-index l.capabilities)) l.initial.ranks l.ranks

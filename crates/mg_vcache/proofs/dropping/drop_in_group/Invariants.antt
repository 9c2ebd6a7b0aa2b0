use Rattle.{mg_vcache.{proofs.Dropped.GroupDropped, specs.EndedSeats.ended_of}, std.proofs.Common.◌*◌}
use Rattle.mg_vcache.proofs.dropping.drop_in_group.Given as goal

-- the seats of the group before this one are done
abbrev pub invariant-loop-place : goal.invariant-loop-place
invariant-loop-place l = GroupDropped (16 * l.group) l.place l.row (ended_of l.ended) l.initial.seats l.seats l.left

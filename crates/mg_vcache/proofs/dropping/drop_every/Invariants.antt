use Rattle.{mg_model.specs.Backed.by_each, mg_vcache.specs.Seats.without, std.proofs.Common.{◌≡◌, ◌++◌, take, drop}}
use Rattle.mg_vcache.proofs.dropping.drop_every.Given as goal

-- the seats before this one are dropped
abbrev pub invariant-loop-seat : goal.invariant-loop-seat
invariant-loop-seat l = l.seats ≡ without by_each (take l.seat-index l.initial.seats) ++ drop l.seat-index l.initial.seats

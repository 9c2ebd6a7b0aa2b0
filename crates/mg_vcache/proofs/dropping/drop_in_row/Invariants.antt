use Rattle.mg_vcache.{proofs.Dropped.RowDropped, specs.EndedSeats.ended_of}
use Rattle.mg_vcache.proofs.dropping.drop_in_row.Given as goal

-- the groups before this one are done
abbrev pub invariant-loop-group : goal.invariant-loop-group
invariant-loop-group l = RowDropped l.group (ended_of l.ended) l.initial.seats l.seats l.marks

use Rattle.{mg_index.proofs.Listed.IsBegun, std.specs.Vec.vec_capacity}
use Rattle.mg_index.proofs.pairs.list_pairs.Given as goal

-- the places up to here are listed
abbrev pub invariant-loop-place : goal.invariant-loop-place
invariant-loop-place l = IsBegun l.numbers l.place l.pairs.items (vec_capacity l.pairs)

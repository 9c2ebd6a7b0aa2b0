use Rattle.{mg_objects.specs.Held.{IsBefore, objects_in}, std.specs.List.AllAdjacentBelow}
use Rattle.mg_objects.proofs.table.are_apart.Given as goal

-- each object so far ends before the next begins
abbrev pub invariant-loop-i : goal.invariant-loop-i
invariant-loop-i l = AllAdjacentBelow IsBefore (objects_in l.table) l.i

use Rattle.{mg_faults.specs.Faults.CountGoesOn, std.{proofs.Common.{◌≡◌, ◌-◌, ◌≤◌, length}, specs.Io.KnownBytes.Consumes}}
use Rattle.mg_filter.proofs.whole.read_whole.Given as goal

-- The text is what was read so far, and within the limit.
-- The piece keeps its length, and the count of faults goes on.
abbrev pub invariant-pieces : goal.invariant-pieces
invariant-pieces g l = record {
  read : Consumes (g.S.Source.left l.initial.source) (g.S.Source.left l.source) l.text.items;
  within : length l.text.items ≤ l.limit;
  size : length l.piece ≡ 4096;
  count : CountGoesOn (g.S.Source.faults l.initial.source) (g.S.Source.faults l.source) (g.S.Source.is_spent l.initial.source) (g.S.Source.is_spent l.source);
}

abbrev pub decreases-pieces : goal.decreases-pieces
decreases-pieces g l = l.limit - length l.text.items

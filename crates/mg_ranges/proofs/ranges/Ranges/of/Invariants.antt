use Rattle.{mg_ranges.specs.Gaps.AreGapsOf, std.proofs.Common.take}
use Rattle.mg_ranges.proofs.ranges.Ranges.of.Given as goal

abbrev pub invariant-loop-span : goal.invariant-loop-span
invariant-loop-span l = AreGapsOf (take l.span-index l.taken) l.ranges

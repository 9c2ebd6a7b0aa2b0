use Rattle.{mg_rules.proofs.Apart.{distinct-same, sorted-numbers}, std.proofs.Common.arith}
use Rattle.mg_rules.proofs.sorted.are_distinct.Goals as goal

pub returns : goal.returns
returns c = grind (arith, distinct-same, sorted-numbers)

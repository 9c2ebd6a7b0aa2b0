use Rattle.{mg_journal.proofs.Hints.hinted_none, std.proofs.Common.arith}
use Rattle.mg_journal.proofs.home_list.Homes.clear.Goals as goal

pub invariant_of-self : goal.invariant_of-self
invariant_of-self c = grind (arith, hinted_none)

use Rattle.{mg_rules.proofs.StateFits.threads-fit, std.proofs.Common.arith}
use Rattle.mg_rules.proofs.soundness.threads_fit.Goals as goal

pub returns-then-not-begin_with_first : goal.returns-then-not-begin_with_first
returns-then-not-begin_with_first c = grind (arith, threads-fit)

pub returns-then-distinct : goal.returns-then-distinct
returns-then-distinct c = grind (arith, threads-fit)

pub returns-else-distinct : goal.returns-else-distinct
returns-else-distinct c = grind (arith, threads-fit)

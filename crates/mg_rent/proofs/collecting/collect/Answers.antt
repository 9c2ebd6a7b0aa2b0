use Rattle.std.proofs.Common.{rules}
use Rattle.mg_rent.proofs.collecting.collect.Goals as goal

-- src/collecting.rt:19:1
pub returns-clause-collects : goal.returns-clause-collects
returns-clause-collects c = λ objects are. c.in_ok-paid.ensures.collects (search rules) objects are

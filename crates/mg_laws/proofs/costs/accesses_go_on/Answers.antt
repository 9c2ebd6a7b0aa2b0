use Rattle.mg_laws.proofs.KeysSearched.{limit-goes_on, rules-go_on}
use Rattle.mg_laws.proofs.costs.accesses_go_on.Goals as goal

pub returns-clause-rules : goal.returns-clause-rules
returns-clause-rules c = rules-go_on

pub returns-clause-limit : goal.returns-clause-limit
returns-clause-limit c = limit-goes_on

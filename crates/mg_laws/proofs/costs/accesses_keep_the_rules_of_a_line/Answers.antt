use Rattle.mg_laws.proofs.KeysSearched.{searches-go_on, searches-keep_rules}
use Rattle.mg_laws.proofs.costs.accesses_keep_the_rules_of_a_line.Goals as goal

pub returns-clause-kept : goal.returns-clause-kept
returns-clause-kept c = searches-keep_rules

pub returns-clause-more : goal.returns-clause-more
returns-clause-more c = searches-go_on

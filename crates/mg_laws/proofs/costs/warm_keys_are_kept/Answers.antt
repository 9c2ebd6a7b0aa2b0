use Rattle.mg_laws.proofs.CostsBound.{limit-within, warm-begins, warm-stays}
use Rattle.mg_laws.proofs.costs.warm_keys_are_kept.Goals as goal

pub returns-clause-begins : goal.returns-clause-begins
returns-clause-begins c = warm-begins

pub returns-clause-stays : goal.returns-clause-stays
returns-clause-stays c = warm-stays

pub returns-clause-limit : goal.returns-clause-limit
returns-clause-limit c = limit-within

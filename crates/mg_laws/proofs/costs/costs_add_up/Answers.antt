use Rattle.mg_laws.proofs.CostsBound.{costs-add_up, costs-go_on, events-go_on, prefix-costs_less}
use Rattle.mg_laws.proofs.costs.costs_add_up.Goals as goal

pub returns-clause-events : goal.returns-clause-events
returns-clause-events c = events-go_on

pub returns-clause-appended : goal.returns-clause-appended
returns-clause-appended c = costs-add_up

pub returns-clause-line : goal.returns-clause-line
returns-clause-line c = costs-go_on

pub returns-clause-prefix : goal.returns-clause-prefix
returns-clause-prefix c = prefix-costs_less

use Rattle.mg_laws.proofs.CostsBound.{bounded}
use Rattle.mg_laws.proofs.costs.lines_cost_no_more.Goals as goal

pub returns : goal.returns
returns c = bounded

use Rattle.mg_script.proofs.Searched.{turns-search}
use Rattle.mg_script.proofs.costs.turns_search_as_calls.Goals as goal

pub returns : goal.returns
returns c = turns-search

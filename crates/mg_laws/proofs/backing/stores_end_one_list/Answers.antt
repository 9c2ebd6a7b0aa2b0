use Rattle.mg_laws.proofs.BacksAllowed.{ends-one_list}
use Rattle.mg_laws.proofs.backing.stores_end_one_list.Goals as goal

pub returns : goal.returns
returns c = ends-one_list

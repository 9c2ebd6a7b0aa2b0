use Rattle.mg_laws.proofs.{Lowest.lowest_free-exists, LowestPages.lowest_free-taken}
use Rattle.mg_laws.proofs.free_pages_are_found.Goals as goal

pub returns-clause-found : goal.returns-clause-found
returns-clause-found c = lowest_free-exists

pub returns-clause-taken : goal.returns-clause-taken
returns-clause-taken c = lowest_free-taken

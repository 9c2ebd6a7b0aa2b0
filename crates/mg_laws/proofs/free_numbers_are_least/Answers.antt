use Rattle.mg_laws.proofs.LeastNumber.{free_number-least}
use Rattle.mg_laws.proofs.free_numbers_are_least.Goals as goal

pub returns : goal.returns
returns c = free_number-least

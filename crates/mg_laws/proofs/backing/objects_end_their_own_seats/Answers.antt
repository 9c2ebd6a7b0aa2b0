use Rattle.mg_laws.proofs.BacksObjects.{change-backed, gone-backed}
use Rattle.mg_laws.proofs.backing.objects_end_their_own_seats.Goals as goal

pub returns-clause-gone : goal.returns-clause-gone
returns-clause-gone c = gone-backed

pub returns-clause-changed : goal.returns-clause-changed
returns-clause-changed c = change-backed

use Rattle.mg_laws.proofs.BacksAllowed.{allowed-backed, backed-allows, opening-backs}
use Rattle.mg_laws.proofs.backing.backed_seats_are_allowed.Goals as goal

pub returns-clause-allows : goal.returns-clause-allows
returns-clause-allows c = backed-allows

pub returns-clause-backed : goal.returns-clause-backed
returns-clause-backed c = allowed-backed

pub returns-clause-opened : goal.returns-clause-opened
returns-clause-opened c = opening-backs

use Rattle.mg_rows.proofs.OneWay.{accounts-one_way, counters-one_way, objects-one_way, threads-one_way}
use Rattle.mg_rows.proofs.laws.rows_are_spelled_in_one_way.Goals as goal

pub returns-clause-accounts : goal.returns-clause-accounts
returns-clause-accounts c = accounts-one_way

pub returns-clause-threads : goal.returns-clause-threads
returns-clause-threads c = threads-one_way

pub returns-clause-objects : goal.returns-clause-objects
returns-clause-objects c = objects-one_way

pub returns-clause-counters : goal.returns-clause-counters
returns-clause-counters c = counters-one_way

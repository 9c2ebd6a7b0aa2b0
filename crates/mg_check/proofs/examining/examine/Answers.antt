use Rattle.mg_rules.specs.RowsRead.{state_in}
use Rattle.mg_check.proofs.examining.examine.Goals as goal

pub returns-in-Ok-clause-tells : goal.returns-in-Ok-clause-tells
returns-in-Ok-clause-tells g c image told =
    let rows = c.in-Ok.rows in
    let read = c.in-Ok.ensures.told image told in
    record { state = state_in rows read.replayed; is = read.is; told = c.summary_of.ensures.told read.replayed }

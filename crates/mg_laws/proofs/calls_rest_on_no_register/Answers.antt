use Rattle.mg_laws.proofs.RowsOver.{calls_over}
use Rattle.mg_laws.proofs.calls_rest_on_no_register.Goals as goal

pub returns : goal.returns
returns c = calls_over

use Rattle.mg_laws.proofs.CursorOver.{turn-over}
use Rattle.mg_laws.proofs.turns_rest_on_no_cursor.Goals as goal

pub returns : goal.returns
returns c = turn-over

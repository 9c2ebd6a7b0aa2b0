use Rattle.mg_laws.proofs.KeysTaken.{tells_taken}
use Rattle.mg_laws.proofs.costs.recent_keys_were_taken.Goals as goal

pub returns : goal.returns
returns c = tells_taken

use Rattle.mg_gen.proofs.Asked.{lines-are-calls}
use Rattle.mg_gen.proofs.laws.lines_are_calls.Goals as goal

pub returns : goal.returns
returns c = lines-are-calls

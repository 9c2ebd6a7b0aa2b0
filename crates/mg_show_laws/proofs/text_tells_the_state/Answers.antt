use Rattle.mg_show_laws.proofs.StateTold.{text-told}
use Rattle.mg_show_laws.proofs.text_tells_the_state.Goals as goal

pub returns : goal.returns
returns c = text-told

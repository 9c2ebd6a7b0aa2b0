use Rattle.std.proofs.Common.{◌∙◌, refl}
use Rattle.mg_layout.proofs.fresh.gate.Goals as goal

pub returns : goal.returns
returns c = c.whole.ensures ∙ rw (c.add.ensures.value, c.new-filling.ensures) refl

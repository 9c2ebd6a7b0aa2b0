use Rattle.std.proofs.Common.{◌∙◌, refl}
use Rattle.mg_layout.proofs.fresh.table.Goals as goal

pub returns : goal.returns
returns c = c.whole.ensures ∙ rw (c.add_words.ensures.value, c.new-filling.ensures) refl

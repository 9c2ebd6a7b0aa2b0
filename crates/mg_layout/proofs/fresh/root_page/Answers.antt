use Rattle.std.proofs.Common.{◌∙◌, refl}
use Rattle.mg_layout.proofs.fresh.root_page.Goals as goal

pub returns : goal.returns
returns c = c.whole.ensures ∙ rw (c.add_words.ensures.value, c.new-filling.ensures, c.draw.ensures, c.seed.ensures) refl

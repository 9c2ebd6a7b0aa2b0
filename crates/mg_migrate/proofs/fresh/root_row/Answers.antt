use Rattle.std.proofs.Common.{◌∙◌, refl}
use Rattle.mg_migrate.proofs.fresh.root_row.Goals as goal

pub returns : goal.returns
returns c =
    c.whole.ensures
    ∙ rw (c.add-2.ensures.value, c.add.ensures.value, c.add_words-3.ensures.value, c.add_words-2.ensures.value, c.add_words.ensures.value, c.new-filling.ensures, c.draw.ensures, c.seed.ensures) refl

use Rattle.{mg_model.specs.Ranges.IsWord, std.proofs.lemmas.List.Elements.All-from_get_or}
use Rattle.mg_layout.proofs.filling.Filling.add_words.Goals as goal

pub returns-clause-fit : goal.returns-clause-fit
returns-clause-fit g c = All-from_get_or IsWord c.args.words.now 0 (λ i below. (c.type_inv.words i).fits)

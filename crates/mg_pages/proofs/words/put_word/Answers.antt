use Rattle.std.proofs.{Common.{◌*◌, arith, ⊎_elim, inl, inr}, lemmas.Bool.cases_lt}
use Rattle.mg_pages.proofs.words.put_word.Goals as goal

pub returns-clause-others : goal.returns-clause-others
returns-clause-others c j apart = c.put_number.ensures.others (8 * j) (⊎_elim (λ low. inl (omega arith)) (λ high. inr (omega arith)) (cases_lt j c.args.index))

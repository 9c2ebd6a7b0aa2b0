use Rattle.mg_gen.proofs.{Counted.{counts-add-up, words-in-rows}, Told.counts-are-told}
use Rattle.mg_gen.proofs.laws.counts_add_up.Goals as goal

pub returns-clause-sum : goal.returns-clause-sum
returns-clause-sum c = counts-add-up

pub returns-clause-words : goal.returns-clause-words
returns-clause-words c = words-in-rows

pub returns-clause-text : goal.returns-clause-text
returns-clause-text c = counts-are-told

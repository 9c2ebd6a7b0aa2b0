use Rattle.{mg_model.specs.{Abbreviations.below_word, Words.value_of_digits}, mg_text.proofs.Firsts.{behind-words, first-decimal, first-hexadecimal}}
use Rattle.{mg_text.specs.Fronts.{before_blank, from_blank}, std.proofs.Common.{sym, ◌∙◌}}
use Rattle.mg_text.proofs.numbers.next_number.Goals as goal

pub returns-in-Some : goal.returns-in-Some
returns-in-Some c =
    behind-words (λ p. (p.0, p.1.now)) c.until_blank.result (from_blank c.in-Some.digits.now) (below_word (value_of_digits 16 16 (before_blank c.in-Some.digits.now)))
    c.until_blank.ensures
    ∙ sym (first-hexadecimal c.args.bytes.now c.split_at.result.1.now c.in-Some.digits.now c.blanks.result c.blanks.ensures.count c.split_at.ensures.back c.in-Some.ensures)

pub returns-in-None : goal.returns-in-None
returns-in-None c =
    behind-words (λ p. (p.0, p.1.now)) c.until_blank-in-None.result (from_blank c.split_at.result.1.now)
    (below_word (value_of_digits 10 20 (before_blank c.split_at.result.1.now))) c.until_blank-in-None.ensures
    ∙ sym (first-decimal c.args.bytes.now c.split_at.result.1.now c.blanks.result c.blanks.ensures.count c.split_at.ensures.back c.in-None.ensures)

use Rattle.{mg_model.specs.Print.hex_digits, mg_text.proofs.Texts.word_after, std.proofs.Common.{◌++◌, ap, ◌∙◌}}
use Rattle.mg_text.proofs.replies.push_word.Goals as goal

pub returns-clause-text : goal.returns-clause-text
returns-clause-text c =
    c.push_text-2.ensures.text ∙ ap (λ v. c.push_text.new.out.items ++ v) c.hex_digits.ensures ∙ ap (λ v. v ++ hex_digits 16 c.args.word) c.push_text.ensures.text ∙ word_after c.args.out.now.items c.args.word

use Rattle.{mg_model.specs.Print.hex_digits, mg_text.proofs.Texts.word_line, std.proofs.Common.{◌≡◌, rules}}
use Rattle.mg_text.proofs.replies.value_line.Goals as goal

pub returns : goal.returns
returns c =
    let is : c.copy_from_slice.new.self ≡ hex_digits 16 c.args.word = search rules in
    word_line c.args.word c.copy_from_slice.new.self is

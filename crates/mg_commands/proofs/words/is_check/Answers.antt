use Rattle.{mg_commands.proofs.Spelled.{is_check-other, is_check-two}, std.proofs.Common.{sym, ◌∙◌}}
use Rattle.mg_commands.proofs.words.is_check.Goals as goal

pub returns-then-words-ne2 : goal.returns-then-words-ne2
returns-then-words-ne2 c = sym (is_check-other c.args.words.now c.if-words-ne2.true)

pub returns : goal.returns
returns c = c.is_word.ensures ∙ is_check-two c.args.words.now c.index-words-1.result _ c.if-words-ne2.false c.index-words-1.is c.as_bytes.ensures.value

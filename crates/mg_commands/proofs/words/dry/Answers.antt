use Rattle.{mg_commands.proofs.Spelled.{dry_of-five, dry_of-other}, std.proofs.Common.{sym, ◌∙◌}}
use Rattle.mg_commands.proofs.words.dry.Goals as goal

pub returns-then-words-ne5 : goal.returns-then-words-ne5
returns-then-words-ne5 c = sym (dry_of-other c.args.words.now c.if-words-ne5.true)

pub returns : goal.returns
returns c =
    c.dry_words.ensures
    ∙ dry_of-five c.args.words.now c.index-words-1.result c.index-words-2.result c.index-words-3.result c.index-words-4.result _ _ _ _ c.if-words-ne5.false
    c.index-words-1.is c.index-words-2.is c.index-words-3.is c.index-words-4.is
    c.as_bytes.ensures.value c.as_bytes-2.ensures.value c.as_bytes-3.ensures.value c.as_bytes-4.ensures.value

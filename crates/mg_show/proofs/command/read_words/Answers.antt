use Rattle.{mg_show.proofs.Spelled.{five_words, none_asked, one_word}, std.proofs.Common.{◌∙◌, arith, inl, inr}}
use Rattle.mg_show.proofs.command.read_words.Goals as goal

pub returns-in-len1 : goal.returns-in-len1
returns-in-len1 c = one_word c.args.words.now c.in-len1.len_at_least c.in-len1.len_below

pub returns-in-len5 : goal.returns-in-len5
returns-in-len5 c =
    c.part_named.ensures
    ∙ five_words c.args.words.now c.word-item-then-words-lt6.result c.start-item.result c.number-item.result c.steps-item.result _ _ _ _ c.in-len5.len_at_least c.in-len5.len_below
    c.word-item-then-words-lt6.is c.start-item.is c.number-item.is c.steps-item.is
    c.as_bytes-in-len5.ensures.value c.as_bytes-in-len5-2.ensures.value c.as_bytes-in-len5-3.ensures.value c.as_bytes-in-len5-4.ensures.value

pub returns-in_default-2 : goal.returns-in_default-2
returns-in_default-2 c = none_asked c.args.words.now c.in_default.len_at_least (inl c.in_default.len_below)

pub returns-in_default-3 : goal.returns-in_default-3
returns-in_default-3 c = none_asked c.args.words.now (let many = c.in_default.len_at_least in omega arith) (inr c.in_default.len_at_least)

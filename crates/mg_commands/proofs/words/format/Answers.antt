use Rattle.mg_commands.proofs.Spelled.{format_of-five, format_of-nine, format_of-other, item, length-arguments, tariff_of-four}
use Rattle.mg_commands.proofs.words.format.Goals.{in_default-via-then-words-lt5, in_default-via-else-words-lt5+else-words-lt6+then-words-lt9}
use Rattle.mg_commands.proofs.words.format.Goals.{in_default-via-else-words-lt5+else-words-lt6+else-words-lt9+else-words-lt10}
use Rattle.{mg_io.specs.Arguments.arguments, std.proofs.Common.{sym, ◌∙◌, arith}}
use Rattle.mg_commands.proofs.words.format.Goals as goal

pub returns-in-len5 : goal.returns-in-len5
returns-in-len5 c =
    let low = c.in-len5.len_at_least in
    let high = c.in-len5.len_below in
    let words = c.args.words.now in
    c.format_usual.ensures
    ∙ format_of-five (arguments words) _ _ _ _ (length-arguments words ∙ omega arith)
    (item words 1 c.word-item.result (omega arith) c.word-item.is ∙ sym c.as_bytes.ensures.value)
    (item words 2 c.frames-item.result (omega arith) c.frames-item.is ∙ sym c.as_bytes-in-len5.ensures.value)
    (item words 3 c.seed-item.result (omega arith) c.seed-item.is ∙ sym c.as_bytes-in-len5-2.ensures.value)
    (item words 4 c.credits-item.result (omega arith) c.credits-item.is ∙ sym c.as_bytes-in-len5-3.ensures.value)

pub returns-in-len9 : goal.returns-in-len9
returns-in-len9 c =
    let low = c.in-len9.len_at_least in
    let high = c.in-len9.len_below in
    let words = c.args.words.now in
    c.format_with.ensures
    ∙ format_of-nine (arguments words) _ _ _ _ _ (length-arguments words ∙ omega arith)
    (item words 1 c.word-item-then-words-lt10.result (omega arith) c.word-item-then-words-lt10.is ∙ sym c.as_bytes-in-len9-5.ensures.value)
    (item words 2 c.frames-item-then-words-lt10.result (omega arith) c.frames-item-then-words-lt10.is ∙ sym c.as_bytes-in-len9-6.ensures.value)
    (item words 3 c.seed-item-then-words-lt10.result (omega arith) c.seed-item-then-words-lt10.is ∙ sym c.as_bytes-in-len9-7.ensures.value)
    (item words 4 c.credits-item-then-words-lt10.result (omega arith) c.credits-item-then-words-lt10.is ∙ sym c.as_bytes-in-len9-8.ensures.value)
    (tariff_of-four _ _ _ _ _ _ _ _
    (item words 5 c.a-item.result (omega arith) c.a-item.is ∙ sym c.as_bytes-in-len9.ensures.value)
    (item words 6 c.b-item.result (omega arith) c.b-item.is ∙ sym c.as_bytes-in-len9-2.ensures.value)
    (item words 7 c.c-item.result (omega arith) c.c-item.is ∙ sym c.as_bytes-in-len9-3.ensures.value)
    (item words 8 c.d-item.result (omega arith) c.d-item.is ∙ sym c.as_bytes-in-len9-4.ensures.value)
    ∙ sym c.tariff.ensures)

pub returns-in_default : goal.returns-in_default
returns-in_default c =
    elim c.in_default.branch [
      | in_default-via-then-words-lt5 w ↦ let h = w in sym (format_of-other c.args.words.now (λ e. grind (arith, h)) (λ e. grind (arith, h)))
      | in_default-via-else-words-lt5+else-words-lt6+then-words-lt9 w ↦ let h = w in sym (format_of-other c.args.words.now (λ e. grind (arith, h)) (λ e. grind (arith, h)))
      | in_default-via-else-words-lt5+else-words-lt6+else-words-lt9+else-words-lt10 w ↦ let h = w in sym (format_of-other c.args.words.now (λ e. grind (arith, h)) (λ e. grind (arith, h)))
    ]

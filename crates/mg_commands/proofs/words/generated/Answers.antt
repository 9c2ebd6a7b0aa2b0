use Rattle.{mg_commands.proofs.Spelled.{gen_of-four, gen_of-other, item, length-arguments}, mg_io.specs.Arguments.arguments, std.proofs.Common.sym}
use Rattle.std.proofs.Common.{◌∙◌, arith}
use Rattle.mg_commands.proofs.words.generated.Goals as goal

pub returns-in-len4-clause-run : goal.returns-in-len4-clause-run
returns-in-len4-clause-run c =
    let low = c.in-len4.len_at_least in
    let high = c.in-len4.len_below in
    let words = c.args.words.now in
    c.gen_with.ensures.run
    ∙ gen_of-four (arguments words) _ _ _ (length-arguments words ∙ omega arith)
    (item words 1 c.word-item.result (omega arith) c.word-item.is ∙ sym c.as_bytes.ensures.value)
    (item words 2 c.number-item.result (omega arith) c.number-item.is ∙ sym c.as_bytes-in-len4.ensures.value)
    (item words 3 c.lines-item.result (omega arith) c.lines-item.is ∙ sym c.as_bytes-in-len4-2.ensures.value)

pub returns-in_default-clause-run : goal.returns-in_default-clause-run
returns-in_default-clause-run c = let h = c.in_default.len_below in sym (gen_of-other c.args.words.now (λ e. grind (arith, h)))

pub returns-in_default-2-clause-run : goal.returns-in_default-2-clause-run
returns-in_default-2-clause-run c = let h = c.in_default.len_at_least in sym (gen_of-other c.args.words.now (λ e. grind (arith, h)))

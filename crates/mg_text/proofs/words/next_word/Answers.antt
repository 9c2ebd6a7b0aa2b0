use Rattle.{mg_model.specs.Words.is_blank, mg_text.specs.PieceLemmas.{pieces-found, pieces-lacking}, std.proofs.Common.{◌≡◌, ◌<◌, arith}}
use Rattle.std.proofs.lemmas.Bool.Decides.{nat_tests}
use Rattle.mg_text.proofs.words.next_word.Goals as goal

pub returns-then-is_empty-clause-none : goal.returns-then-is_empty-clause-none
returns-then-is_empty-clause-none c =
    let none : c.letters.result ≡ 0 = grind (arith, nat_tests) in
    pieces-lacking is_blank c.args.bytes.now c.split_at.result.1.now c.blanks.result c.letters.result c.blanks.ensures.count c.split_at.ensures.back c.letters.ensures.count none

pub returns-else-is_empty-clause-split : goal.returns-else-is_empty-clause-split
returns-else-is_empty-clause-split c =
    let some : 0 < c.letters.result = grind (arith, nat_tests) in
    pieces-found is_blank c.args.bytes.now c.split_at.result.1.now c.split_at-2.result.0.now c.split_at-2.result.1.now c.blanks.result c.letters.result
    c.blanks.ensures.count c.split_at.ensures.back c.letters.ensures.count c.split_at-2.ensures.front c.split_at-2.ensures.back some

use Rattle.{mg_asm.specs.Tokens.is_gap, mg_text.specs.PieceLemmas.{pieces-found, pieces-lacking}, std.proofs.Common.{◌≡◌, ◌<◌, arith}}
use Rattle.std.proofs.lemmas.Bool.Decides.{nat_tests}
use Rattle.mg_asm.proofs.tokens.next_token.Goals as goal

pub returns-then-is_empty-clause-none : goal.returns-then-is_empty-clause-none
returns-then-is_empty-clause-none c =
    let none : c.letters.result ≡ 0 = grind (arith, nat_tests) in
    pieces-lacking is_gap c.args.bytes.now c.split_at.result.1.now c.gaps.result c.letters.result c.gaps.ensures.count c.split_at.ensures.back c.letters.ensures.count none

pub returns-else-is_empty-clause-split : goal.returns-else-is_empty-clause-split
returns-else-is_empty-clause-split c =
    let some : 0 < c.letters.result = grind (arith, nat_tests) in
    pieces-found is_gap c.args.bytes.now c.split_at.result.1.now c.split_at-2.result.0.now c.split_at-2.result.1.now c.gaps.result c.letters.result
    c.gaps.ensures.count c.split_at.ensures.back c.letters.ensures.count c.split_at-2.ensures.front c.split_at-2.ensures.back some

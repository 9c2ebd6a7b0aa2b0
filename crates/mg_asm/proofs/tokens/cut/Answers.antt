use Rattle.{mg_asm.specs.CutLemmas.{cut-none, cut-some, no_length, rest_of}, std.proofs.Common.{◌≡◌, ◌-◌, ◌<◌, ◌==◌, length, take, drop, arith}}
use Rattle.std.proofs.lemmas.Bool.Decides.{nat_tests}
use Rattle.mg_asm.proofs.tokens.cut.Goals as goal

pub returns-then-is_empty-clause-pieces : goal.returns-then-is_empty-clause-pieces
returns-then-is_empty-clause-pieces c =
    let none : length c.split_at.result.1.now ≡ 0 = grind (arith, nat_tests) in
    cut-none (λ b. b == c.args.end) c.args.bytes.now c.split_at.result.0.now c.split_at.result.1.now c.before-2.result
    c.before-2.ensures.count c.split_at.ensures.front c.split_at.ensures.back (no_length c.split_at.result.1.now none)

pub returns-else-is_empty-clause-pieces : goal.returns-else-is_empty-clause-pieces
returns-else-is_empty-clause-pieces c =
    let some : 0 < length c.split_at.result.1.now = grind (arith, nat_tests) in
    cut-some (λ b. b == c.args.end) c.args.bytes.now c.split_at.result.0.now c.split_at.result.1.now (take (length c.split_at.result.1.now - 1) (drop 1 c.split_at.result.1.now)) c.before-2.result
    c.before-2.ensures.count c.split_at.ensures.front c.split_at.ensures.back some (rest_of c.split_at.result.1.now)

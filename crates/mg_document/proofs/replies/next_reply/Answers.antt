use Rattle.{mg_asm.specs.CutLemmas.{no_length, rest_of}, mg_document.proofs.Cuts.{ended-none, ended-some}, mg_model.specs.Words.is_newline}
use Rattle.std.proofs.{Common.{◌≡◌, ◌-◌, ◌<◌, length, take, drop, arith}, lemmas.Bool.Decides.nat_tests}
use Rattle.mg_document.proofs.replies.next_reply.Goals as goal

pub returns-then-is_empty-clause-none : goal.returns-then-is_empty-clause-none
returns-then-is_empty-clause-none c =
    let none : length c.split_at.result.1.now ≡ 0 = grind (arith, nat_tests) in
    ended-none is_newline c.args.bytes.now c.split_at.result.1.now c.before_newline.result
    c.before_newline.ensures.count c.split_at.ensures.back (no_length c.split_at.result.1.now none)

pub returns-else-is_empty-clause-split : goal.returns-else-is_empty-clause-split
returns-else-is_empty-clause-split c =
    let some : 0 < length c.split_at.result.1.now = grind (arith, nat_tests) in
    ended-some is_newline c.args.bytes.now c.split_at.result.0.now c.split_at.result.1.now (take (length c.split_at.result.1.now - 1) (drop 1 c.split_at.result.1.now)) c.before_newline.result
    c.before_newline.ensures.count c.split_at.ensures.front c.split_at.ensures.back some (rest_of c.split_at.result.1.now)

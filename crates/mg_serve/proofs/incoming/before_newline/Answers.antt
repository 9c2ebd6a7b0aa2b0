use Rattle.{mg_model.specs.Words.is_newline, mg_serve.proofs.NextLines.{fails, stays}, std.proofs.Common.{◌==◌, length, not, sym, arith}}
use Rattle.std.{proofs.lemmas.List.Sums.prefix_len_is, specs.Prelude.slice_index}
use Rattle.mg_serve.proofs.incoming.before_newline.Goals as goal

pub returns-in-Some-clause-count : goal.returns-in-Some-clause-count
returns-in-Some-clause-count c =
    let (place, here) = rw c.in-Some.is at c.memchr.ensures in
    let high = place.high in
    sym
    (prefix_len_is (λ b. not (is_newline b)) c.args.bytes.now c.in-Some.count 0 (omega arith)
    (λ k few. stays (slice_index c.args.bytes.now k == 10) (place.before k (omega arith) few)) (λ few. fails (slice_index c.args.bytes.now c.in-Some.count == 10) here))

pub returns-in-None-clause-count : goal.returns-in-None-clause-count
returns-in-None-clause-count c =
    let nowhere = rw c.in-None.is at c.memchr.ensures in
    sym
    (prefix_len_is (λ b. not (is_newline b)) c.args.bytes.now (length c.args.bytes.now) 0 (omega arith)
    (λ k few. stays (slice_index c.args.bytes.now k == 10) (nowhere k (omega arith) few)) (λ few. absurd (omega arith)))

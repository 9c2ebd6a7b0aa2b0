use Rattle.{mg_serve.proofs.NextLines.{newline-before, newline-none, newline-split}, std.proofs.Common.{◌≡◌, ◌∷◌, ◌++◌, ◌+◌, ◌-◌, [], List, ℕ, ap}}
use Rattle.std.proofs.{Common.{sym, ◌∙◌, arith, length, take, drop}, lemmas.List.{length-drop, take_all}}
use Rattle.mg_serve.proofs.incoming.next_ended.Goals as goal

pub returns-then-count-bytes-clause-line : goal.returns-then-count-bytes-clause-line
returns-then-count-bytes-clause-line c = newline-before c.args.bytes.now c.before_newline-count.result c.before_newline-count.ensures.count

pub returns-then-count-bytes-clause-split : goal.returns-then-count-bytes-clause-split
returns-then-count-bytes-clause-split c =
    let n = c.before_newline-count.result in
    let bytes : List ℕ = c.args.bytes.now in
    let all : take (length bytes - (n + 1)) (drop (n + 1) bytes) ≡ drop (n + 1) bytes = take_all (length bytes - (n + 1)) (drop (n + 1) bytes) (omega (arith, length-drop (n + 1) bytes)) in
    newline-split bytes n c.before_newline-count.ensures.count (omega arith) ∙ ap (λ v. (take n bytes ++ 10 ∷ []) ++ v) (sym all)

pub returns-else-count-bytes-clause-none : goal.returns-else-count-bytes-clause-none
returns-else-count-bytes-clause-none c = newline-none c.args.bytes.now c.before_newline-count.result c.before_newline-count.ensures.count (omega arith)

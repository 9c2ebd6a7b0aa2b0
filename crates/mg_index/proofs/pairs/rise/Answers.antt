use Rattle.{mg_index.proofs.Listed.rising-all, std.proofs.{Common.{◌≡◌, ◌+◌, ◌-◌, ◌<◌, ap, arith, get_or, ⊎_elim}, lemmas.Bool.cases_lt}}
use Rattle.mg_index.proofs.pairs.rise.Goals as goal

pub loop-i-preserved : goal.loop-i-preserved
loop-i-preserved c =
    λ k under.
    let i = c.loop-i.i in
    let at_least = c.loop-i.auto.i in
    let here : (get_or c.args.pairs.now (i - 1) (0, 0)).0 < (get_or c.args.pairs.now i (0, 0)).0 = c.if-pairs-i.false in
    ⊎_elim (λ before. c.loop-i.invariant k before)
    (λ after.
    let e : k ≡ i - 1 = omega arith in
    let f : k + 1 ≡ i = omega arith in
    let a = ap (λ n. (get_or c.args.pairs.now n (0, 0)).0) e in
    let b = ap (λ n. (get_or c.args.pairs.now n (0, 0)).0) f in
    omega arith) (cases_lt (k + 1) i)

pub returns-then-pairs-i-clause-twice : goal.returns-then-pairs-i-clause-twice
returns-then-pairs-i-clause-twice c =
    λ is.
    let pairs = c.args.pairs.now in
    let i = c.loop-i.i in
    let at_least = c.loop-i.auto.i in
    let e : i - 1 + 1 ≡ i = omega arith in
    let order = c.requires (i - 1) i (0, 0) (omega arith) c.loop-i-test.true in
    let same = ap (λ k. (get_or pairs k (0, 0)).0) e in
    (i - 1, omega (arith, c.loop-i-test.true), omega arith)

pub returns-clause-rising : goal.returns-clause-rising
returns-clause-rising c = λ is. rising-all c.args.pairs.now (λ k under. c.loop-i.invariant k (omega arith))

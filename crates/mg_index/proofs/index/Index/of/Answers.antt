use Rattle.mg_index.{proofs.Listed.{rising-distinct, twice-not}, specs.{Pairs.{Ascends, HasTwice, IsSortedTable}, Words.numbers_in}}
use Rattle.{mg_model.specs.Tests.all_distinct, std.{proofs.Common.{◌≡◌, ℕ, List, arith, false, refl, subst, true}, specs.Vec.vec_capacity}}
use Rattle.mg_index.proofs.index.Index.of.Goals as goal

pub invariant_of-result : goal.invariant_of-result
invariant_of-result c =
    let numbers = c.args.numbers.items in
    let pairs = c.in_ok-pairs.pairs.items in
    let space = vec_capacity c.in_ok-pairs.pairs in
    let P = λ (xs : List ℕ). IsSortedTable xs pairs space in
    let table : IsSortedTable numbers pairs space = subst P c.deref.ensures.value c.in_ok-pairs.ensures in
    let Q = λ (ps : List (ℕ × ℕ)). Ascends ps in
    let up : Ascends pairs = subst Q c.deref-2.ensures.value (c.rise.ensures.rising c.if-rise.true) in
    record {
      distinct = rising-distinct numbers pairs space table up;
      few = c.requires;
      ascends = up;
      exact = table.exact;
      count = table.count;
      room = table.room;
      within = omega arith;
      none_free = λ k below is. absurd (omega arith);
    }

pub returns-then-rise : goal.returns-then-rise
returns-then-rise c =
    let numbers = c.args.numbers.items in
    let pairs = c.in_ok-pairs.pairs.items in
    let space = vec_capacity c.in_ok-pairs.pairs in
    let P = λ (xs : List ℕ). IsSortedTable xs pairs space in
    let table : IsSortedTable numbers pairs space = subst P c.deref.ensures.value c.in_ok-pairs.ensures in
    let Q = λ (ps : List (ℕ × ℕ)). Ascends ps in
    let up : Ascends pairs = subst Q c.deref-2.ensures.value (c.rise.ensures.rising c.if-rise.true) in
    let distinct : all_distinct (numbers_in numbers) ≡ true = rising-distinct numbers pairs space table up in
    rw distinct refl

pub returns-else-rise : goal.returns-else-rise
returns-else-rise c =
    let numbers = c.args.numbers.items in
    let pairs = c.in_ok-pairs.pairs.items in
    let space = vec_capacity c.in_ok-pairs.pairs in
    let P = λ (xs : List ℕ). IsSortedTable xs pairs space in
    let table : IsSortedTable numbers pairs space = subst P c.deref.ensures.value c.in_ok-pairs.ensures in
    let Q = λ (ps : List (ℕ × ℕ)). HasTwice ps in
    let twice : HasTwice pairs = subst Q c.deref-2.ensures.value (c.rise.ensures.twice c.if-rise.false) in
    let not_distinct : all_distinct (numbers_in numbers) ≡ false = twice-not numbers pairs space table twice in
    rw not_distinct refl

use Rattle.mg_index.proofs.{Listed.{IsBegun, begun-free, begun-number, listed-exact, listed-none}, pairs.list_pairs.Goals.then-number-ne0}
use Rattle.{mg_index.{proofs.pairs.list_pairs.Goals.else-number-ne0, specs.Words.numbers_in}, std.proofs.Common.{◌≡◌, ◌<◌, ◌+◌, ◌∙◌, ◌++◌, [], ◌∷◌}}
use Rattle.std.proofs.{Common.{Global, Vec, if◌then◌else◌, is_ok, ℕ, List, ap, arith, get_or, length, rules, subst, sym, true}, lemmas.List.take_all}
use Rattle.std.specs.Vec.{vec_capacity, vec_len}
use Rattle.mg_index.proofs.pairs.list_pairs.Goals as goal

pub loop-place-init : goal.loop-place-init
loop-place-init c =
    let P = λ (xs : List (ℕ × ℕ)). IsBegun c.args.numbers.now 0 xs (vec_capacity c.args.pairs.now) in
    subst P (sym c.requires.none) (record { listed = listed-none c.args.numbers.now; few = omega arith; room = c.requires.has_capacity })

pub loop-place-preserved : goal.loop-place-preserved
loop-place-preserved c =
    let numbers = c.args.numbers.now in
    let n = c.loop-place.place in
    let pairs = c.loop-place.pairs in
    let old = c.loop-place.invariant in
    let under : n < length numbers = c.loop-place-test.true in
    let P = λ (v : Vec (ℕ × ℕ) Global). IsBegun numbers (n + 1) v.items (vec_capacity v) in
    elim c.if-number-ne0.branch [
      | then-number-ne0 w ↦
          let few = old.few in
          let room = old.room in
          let space : vec_len pairs < vec_capacity pairs = omega (arith, pairs.ok.0) in
          let done : is_ok w.push.result ≡ true = search (rules, w.push.ensures.succeeds space) in
          let more = pairs.items ++ (get_or numbers n 0, n) ∷ [] in
          let items : w.push.new.self.items ≡ more = w.push.ensures.items ∙ ap (λ t. if t then more else pairs.items) done in
          subst P (sym w.pairs-is) (begun-number numbers n pairs.items w.push.new.self.items (vec_capacity pairs) (vec_capacity w.push.new.self) under w.if-number-ne0.true items w.push.ensures.capacity old)
      | else-number-ne0 w ↦ subst P (sym w.pairs-is) (begun-free numbers n pairs.items (vec_capacity pairs) under w.if-number-ne0.false old)
    ]

pub returns-clause-numbers : goal.returns-clause-numbers
returns-clause-numbers c = c.loop-place.invariant.listed.bound ∙ ap numbers_in (take_all c.loop-place.place c.args.numbers.now c.loop-place-test.false)

pub returns-clause-exact : goal.returns-clause-exact
returns-clause-exact c = listed-exact c.args.numbers.now c.loop-place.place c.loop-place.pairs.items (omega arith) c.loop-place.invariant.listed

pub returns-clause-has_capacity : goal.returns-clause-has_capacity
returns-clause-has_capacity c = c.loop-place.invariant.room

pub returns-clause-places : goal.returns-clause-places
returns-clause-places c = c.loop-place.invariant.listed.once

-- Lemmas that crates above need: the tests on the fields of a row, as facts. That numbers have 64 bits is not among them: it
-- follows from a row's bytes.
use Rattle.std.proofs.{Common.arith, lemmas.Bool.{and_parts, both_ways, eq-eqb, not-true, or_parts, Decides.nat_tests}}
use Rattle.std.{proofs.lemmas.List.{Elements.{All-cons, All-nil}, Kept.AllPairs-cons}, specs.List.{list_all, list_any}}
use Rattle.std.specs.Prelude.{◌≡◌, ◌≢◌, ℕ, ◌==◌, Bool, true, false, not, All, AllPairs, List, [], ◌∷◌}
use Rattle.mg_model.specs.{Ranges.{IsCounters, IsEntryOf, IsPlace}, State.Counters, Tests.{all_distinct, are_counters}}
use Rattle.mg_model.specs.Tests.{is_entry_of, is_place}

pub list_all-tells : {X : Type 0} (test : X → Bool) (P : X → Type 0) → ((x : X) → test x ≡ true → P x) → (xs : List X) → list_all test xs ≡ true → All P xs
list_all-tells test P tells [] all = All-nil P
list_all-tells test P tells (x ∷ xs) all =
    let parts = and_parts (test x) (list_all test xs) all in
    All-cons P x xs (tells x parts.0) (list_all-tells test P tells xs parts.1)

pub place-tells : (base pages : ℕ) → is_place base pages ≡ true → IsPlace base pages
place-tells base pages t = record {
  aligned = grind (arith, nat_tests);
  low = grind (arith, nat_tests);
  some = grind (arith, nat_tests);
  few = grind (arith, nat_tests);
  high = grind (arith, nat_tests);
}

pub entry-tells : (base pages address : ℕ) → is_entry_of base pages address ≡ true → IsEntryOf base pages address
entry-tells base pages address t = record { aligned = grind (arith, nat_tests); above = grind (arith, nat_tests); below = grind (arith, nat_tests) }

pub counters-tell : (counters : Counters) → are_counters counters ≡ true → IsCounters counters
counters-tell counters t = record {
  some_draws = grind (arith, nat_tests);
  draws = grind (arith, nat_tests);
  period = grind (arith, nat_tests);
  cursor = grind (arith, nat_tests);
  some_births = grind (arith, nat_tests);
  births = grind (arith, nat_tests);
}

other_than : (x : ℕ) (xs : List ℕ) → list_any (λ y. x == y) xs ≡ false → All (λ y. x ≢ y) xs
other_than x [] none = All-nil (λ y. x ≢ y)
other_than x (y ∷ ys) none =
    let parts = or_parts (x == y) (list_any (λ y. x == y) ys) none in
    All-cons (λ y. x ≢ y) y ys (λ is. both_ways (x == y) parts.0 (eq-eqb x y is)) (other_than x ys parts.1)

pub distinct-tells : (xs : List ℕ) → all_distinct xs ≡ true → AllPairs (λ x y. x ≢ y) xs
distinct-tells [] t = λ i j d before below. absurd (omega arith)
distinct-tells (x ∷ xs) t =
    let parts = and_parts (not (list_any (λ y. x == y) xs)) (all_distinct xs) t in
    AllPairs-cons (λ x y. x ≢ y) x xs (other_than x xs (not-true (list_any (λ y. x == y) xs) parts.0)) (distinct-tells xs parts.1)

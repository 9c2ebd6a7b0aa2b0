-- The pairs of a table, listed place by place and then sorted by number.
use Rattle.mg_index.{proofs.Bound.one-place, specs.{DistinctLemmas.{distinct-own, own-distinct}, Pairs.{Ascends, HasTwice, IsExact, IsSortedTable}}}
use Rattle.{mg_index.specs.{Pairs.free_count, Words.numbers_in}, mg_model.specs.Tests.all_distinct, std.proofs.Common.{refl, sym, ap, ◌∙◌, subst}}
use Rattle.std.proofs.{Common.{cond, ⊎_elim, arith, get_or}, lemmas.Bool.{cases_Bool, cases_eq, cases_lt, eq-eqb, eqb-false, false_from_ne_true}}
use Rattle.std.proofs.lemmas.{Bool.{ne_eqb, Decides.nat_tests}, List.{append-nil, get_or_default, get_or_past, length-map, length_push, map-append}}
use Rattle.std.proofs.lemmas.List.{take_more, Elements.{Contains-append_left, Contains-get_or, Contains-push, Contains-push_cases, filter-append}}
use Rattle.std.proofs.lemmas.List.{Quantifiers.all_pairs_push, Sorted.{Contains-permutation, IsPermutation-sym, length_permutation}, Sums.sum_by-cons}
use Rattle.std.{proofs.lemmas.Map.Keys.{IsDistinct-IsPermutation, IsDistinct-from_apart, apart_from_distinct}, specs.List.{AllPairs, Contains}}
use Rattle.std.specs.{List.Sorted.{IsNonDecreasingBy, IsPermutation}, Prelude.{◌≡◌, ◌≢◌, ◌+◌, ◌-◌, ◌<◌, ◌≤◌, ◌==◌, if◌then◌else◌, ℕ, zero, suc, Bool}}
use Rattle.std.specs.Prelude.{true, false, not, List, [], ◌∷◌, ◌++◌, length, map, slice_index, take}

-- the bound numbers of the places below n are there with their places, and nothing else
pub record IsListed (numbers : List ℕ) (n : ℕ) (pairs : List (ℕ × ℕ)) : Type 0 where
  pub had : (pair : ℕ × ℕ) → Contains pairs pair → (pair.0 ≢ 0) × (pair.1 < n) × (slice_index numbers pair.1 ≡ pair.0)
  pub has : (pair : ℕ × ℕ) → pair.0 ≢ 0 → pair.1 < n → slice_index numbers pair.1 ≡ pair.0 → Contains pairs pair
  pub once : AllPairs (λ (a b : ℕ × ℕ). a.1 < b.1) pairs
  pub bound : map (λ (pair : ℕ × ℕ). pair.0) pairs ≡ numbers_in (take n numbers)

-- one place more
taken : (numbers : List ℕ) (n : ℕ) → n < length numbers → numbers_in (take (n + 1) numbers) ≡ numbers_in (take n numbers) ++ numbers_in (get_or numbers n 0 ∷ [])
taken numbers n under = ap numbers_in (take_more numbers n 0 under) ∙ filter-append (λ number. not (number == 0)) (take n numbers) (get_or numbers n 0 ∷ [])

pub listed-free : (numbers : List ℕ) (n : ℕ) (pairs : List (ℕ × ℕ)) → n < length numbers → get_or numbers n 0 ≡ 0 → IsListed numbers n pairs → IsListed numbers (n + 1) pairs
listed-free numbers n pairs under free old =
    record {
      had = λ pair there. let was = old.had pair there in (was.0, omega (arith, was.1), was.2);
      has = λ pair some within is. ⊎_elim (λ here. absurd (some (sym is ∙ ap (λ k. get_or numbers k 0) here ∙ free))) (λ other. old.has pair some (omega arith) is) (cases_eq pair.1 n);
      once = old.once;
      bound =
          old.bound
          ∙ sym (taken numbers n under ∙ ap (λ xs. numbers_in (take n numbers) ++ xs) (ap (λ (t : Bool). if not t then get_or numbers n 0 ∷ [] else []) (eq-eqb (get_or numbers n 0) 0 free)) ∙ append-nil (numbers_in (take n numbers)));
    }

pub listed-number : (numbers : List ℕ) (n : ℕ) (pairs : List (ℕ × ℕ)) → n < length numbers → get_or numbers n 0 ≢ 0 → IsListed numbers n pairs → IsListed numbers (n + 1) (pairs ++ (get_or numbers n 0, n) ∷ [])
listed-number numbers n pairs under some old =
    record {
      had =
          λ pair there.
          ⊎_elim (λ before. let was = old.had pair before in (was.0, omega (arith, was.1), was.2))
          (λ here. let P : ℕ × ℕ → Type 0 = λ p. (p.0 ≢ 0) × (p.1 < n + 1) × (slice_index numbers p.1 ≡ p.0) in subst P here (some, omega arith, refl))
          (Contains-push_cases pairs (get_or numbers n 0, n) pair there);
      has =
          λ pair number within is.
          ⊎_elim
          (λ here.
          let new : (get_or numbers n 0, n) ≡ pair = ap (λ m. (m, n)) (ap (λ k. get_or numbers k 0) (sym here) ∙ is) ∙ ap (λ m. (pair.0, m)) (sym here) in
          let P : ℕ × ℕ → Type 0 = λ p. Contains (pairs ++ (get_or numbers n 0, n) ∷ []) p in
          subst P new (Contains-push pairs (get_or numbers n 0, n)))
          (λ other. Contains-append_left pairs ((get_or numbers n 0, n) ∷ []) pair (old.has pair number (omega arith) is)) (cases_eq pair.1 n);
      once = all_pairs_push (λ (a b : ℕ × ℕ). a.1 < b.1) pairs (get_or numbers n 0, n) old.once (λ k d within. (old.had (get_or pairs k d) (Contains-get_or pairs k d within)).1);
      bound =
          map-append (λ (pair : ℕ × ℕ). pair.0) pairs ((get_or numbers n 0, n) ∷ [])
          ∙ ap (λ xs. xs ++ get_or numbers n 0 ∷ []) old.bound
          ∙ sym (taken numbers n under ∙ ap (λ xs. numbers_in (take n numbers) ++ xs) (ap (λ (t : Bool). if not t then get_or numbers n 0 ∷ [] else []) (ne_eqb (get_or numbers n 0) 0 some)));
    }

pub listed-none : (numbers : List ℕ) → IsListed numbers 0 []
listed-none numbers = grind arith

-- and there is room for those that follow
pub record IsBegun (numbers : List ℕ) (n : ℕ) (pairs : List (ℕ × ℕ)) (space : ℕ) : Type 0 where
  pub listed : IsListed numbers n pairs
  pub few : length pairs ≤ n
  pub room : length numbers ≤ space

pub begun-free : (numbers : List ℕ) (n : ℕ) (pairs : List (ℕ × ℕ)) (space : ℕ) → n < length numbers → get_or numbers n 0 ≡ 0 → IsBegun numbers n pairs space → IsBegun numbers (n + 1) pairs space
begun-free numbers n pairs space under free old = let few = old.few in record { listed = listed-free numbers n pairs under free old.listed; few = omega arith; room = old.room }

pub begun-number :
    (numbers : List ℕ) (n : ℕ) (pairs new : List (ℕ × ℕ)) (space more : ℕ) → n < length numbers → get_or numbers n 0 ≢ 0 → new ≡ pairs ++ (get_or numbers n 0, n) ∷ [] → space ≤ more → IsBegun numbers n pairs space
    → IsBegun numbers (n + 1) new more
begun-number numbers n pairs new space more under some is grown old =
    let few = old.few in
    let room = old.room in
    let long = ap length is ∙ length_push pairs (get_or numbers n 0, n) in
    let P = λ (xs : List (ℕ × ℕ)). IsListed numbers (n + 1) xs in
    record { listed = subst P (sym is) (listed-number numbers n pairs under some old.listed); few = omega arith; room = omega arith }

-- all places
pub listed-exact : (numbers : List ℕ) (n : ℕ) (pairs : List (ℕ × ℕ)) → n ≡ length numbers → IsListed numbers n pairs → IsExact numbers pairs
listed-exact numbers n pairs all is pair = grind arith

-- the free places are those that are not bound
free-and-bound : (numbers : List ℕ) → length (numbers_in numbers) + free_count numbers ≡ length numbers
free-and-bound [] = refl
free-and-bound (number ∷ numbers) =
    let more = sum_by-cons (λ (x : ℕ). cond (x == 0) 1 0) number numbers in
    let rest = free-and-bound numbers in
    ⊎_elim (λ t. let m = rw t at more in rw t (omega arith)) (λ f. let m = rw f at more in rw f (omega arith)) (cases_Bool (number == 0))

pub sorted-table :
    (numbers : List ℕ) (pairs sorted : List (ℕ × ℕ)) (space : ℕ) → IsExact numbers pairs → AllPairs (λ (a b : ℕ × ℕ). a.1 < b.1) pairs → map (λ (pair : ℕ × ℕ). pair.0) pairs ≡ numbers_in numbers
    → IsPermutation pairs sorted → IsNonDecreasingBy (λ (pair : ℕ × ℕ). pair.0) sorted → length numbers ≤ space → IsSortedTable numbers sorted space
sorted-table numbers pairs sorted space exact places bound moved order room = record {
  order = order;
  once = IsDistinct-IsPermutation (λ (a b : ℕ × ℕ). a.1 == b.1) (λ a b. grind (arith, nat_tests)) pairs sorted moved
      (IsDistinct-from_apart (λ (a b : ℕ × ℕ). a.1 == b.1) pairs (λ i j d before under. ne_eqb (get_or pairs i d).1 (get_or pairs j d).1 (λ same. let l = places i j d before under in omega arith)));
  exact =
      λ pair. (
        λ there. (exact pair).0 (Contains-permutation sorted pairs pair (IsPermutation-sym pairs sorted moved) there),
        λ is. Contains-permutation pairs sorted pair moved ((exact pair).1 is),
      );
  count = omega (arith, length_permutation pairs sorted moved, ap length bound, length-map pairs (λ (pair : ℕ × ℕ). pair.0), free-and-bound numbers);
  room = room;
}

-- a number that is in two pairs is not distinct
pub twice-not : (numbers : List ℕ) (pairs : List (ℕ × ℕ)) (space : ℕ) → IsSortedTable numbers pairs space → HasTwice pairs → all_distinct (numbers_in numbers) ≡ false
twice-not numbers pairs space table twice =
    false_from_ne_true (all_distinct (numbers_in numbers))
    (λ distinct.
    let k = twice.0 in
    let a = (table.exact (get_or pairs k (0, 0))).0 (Contains-get_or pairs k (0, 0) (omega (arith, twice.1))) in
    let b = (table.exact (get_or pairs (k + 1) (0, 0))).0 (Contains-get_or pairs (k + 1) (0, 0) twice.1) in
    let other = apart_from_distinct (λ (a b : ℕ × ℕ). a.1 == b.1) pairs k (k + 1) (0, 0) table.once (omega arith) twice.1 in
    distinct-own numbers (get_or pairs k (0, 0)).1 (get_or pairs (k + 1) (0, 0)).1 distinct (eqb-false (get_or pairs k (0, 0)).1 (get_or pairs (k + 1) (0, 0)).1 other)
    (λ free. a.0 (sym a.2 ∙ free)) (a.2 ∙ twice.2 ∙ sym b.2))

-- numbers that rise are distinct
pub rising-distinct : (numbers : List ℕ) (pairs : List (ℕ × ℕ)) (space : ℕ) → IsSortedTable numbers pairs space → Ascends pairs → all_distinct (numbers_in numbers) ≡ true
rising-distinct numbers pairs space table up = own-distinct numbers (λ j k other some same. other (one-place numbers pairs up table.exact (get_or numbers j 0) j k (some, within j some, refl) (some, within k (λ free. some (same ∙ free)), sym same)))
  where
    within : (k : ℕ) → get_or numbers k 0 ≢ 0 → k < length numbers
    within k some = ⊎_elim (λ under. under) (λ past. absurd (some (get_or_past numbers k 0 past))) (cases_lt k (length numbers))

-- neighbours that rise
pub rising-all : (pairs : List (ℕ × ℕ)) → ((k : ℕ) → k + 1 < length pairs → (get_or pairs k (0, 0)).0 < (get_or pairs (k + 1) (0, 0)).0) → Ascends pairs
rising-all pairs each i j d before under = go (j - (i + 1)) j (omega arith) under
  where
    go : (n j : ℕ) → j ≡ i + 1 + n → j < length pairs → (get_or pairs i d).0 < (get_or pairs j d).0
    go zero j is within =
        let e : j ≡ i + 1 = omega arith in
        let step = each i (omega arith) in
        let a = ap (λ (p : ℕ × ℕ). p.0) (get_or_default pairs i (0, 0) d (omega arith)) in
        let b = ap (λ (p : ℕ × ℕ). p.0) (get_or_default pairs (i + 1) (0, 0) d (omega arith)) in
        let c = ap (λ k. (get_or pairs k d).0) e in
        omega arith
    go (suc n) j is within =
        let before = go n (i + 1 + n) refl (omega arith) in
        let step = each (i + 1 + n) (omega arith) in
        let e : j ≡ i + 1 + n + 1 = omega arith in
        let a = ap (λ (p : ℕ × ℕ). p.0) (get_or_default pairs (i + 1 + n) (0, 0) d (omega arith)) in
        let b = ap (λ (p : ℕ × ℕ). p.0) (get_or_default pairs (i + 1 + n + 1) (0, 0) d (omega arith)) in
        let c = ap (λ k. (get_or pairs k d).0) e in
        omega arith

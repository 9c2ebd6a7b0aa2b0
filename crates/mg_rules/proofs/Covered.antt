-- Among runs that are apart, the last one that begins no higher decides whether a number lies in one.
use Rattle.mg_rules.{proofs.Apart.{apart-pairs, both_ways, in_one, one_in}, specs.Spans.{IsSome, IsWithin, apart_from, is_in}}
use Rattle.std.proofs.{Common.{refl, sym, ap, ◌∙◌, arith, ⊎_elim}, lemmas.Bool.{cases_eq, leb-true, leb-false, lt-ltb, ltb-true, Decides.nat_tests}}
use Rattle.std.{proofs.lemmas.List.{get_or_default, Folds.{Any-from_list_any, list_any_at}, Sorted.list_any-IsPermutation}, specs.List.list_all}
use Rattle.std.specs.{List.{list_any, Sorted.{IsNonDecreasingBy, IsPartitionPoint, IsPermutation}}, Prelude.{◌≡◌, ℕ, ◌-◌, ◌<◌, ◌≤◌, ◌&&◌, ◌||◌}}
use Rattle.std.specs.Prelude.{nat_le, nat_lt, not, Bool, true, false, List, [], ◌∷◌, All, length, slice_index_or}

module _ (spans : List (ℕ × ℕ)) (some : All IsSome spans) (apart : apart_from 0 spans ≡ true) where
  pub begins_rise : IsNonDecreasingBy (λ (span : ℕ × ℕ). span.0) spans
  begins_rise i j d low below = ⊎_elim (λ same. let e = ap (λ k. (slice_index_or spans k d).0) same in omega arith) (λ other. less (omega arith)) (cases_eq i j)
    where
      less : i < j → (slice_index_or spans i d).0 ≤ (slice_index_or spans j d).0
      less before = let p = apart-pairs 0 spans some apart i j d before below in let s : (slice_index_or spans i d).0 < (slice_index_or spans i d).1 = some i d (omega arith) in omega arith

  module _ (n place : ℕ) (within : place ≤ length spans) (point : IsPartitionPoint (λ (span : ℕ × ℕ). nat_le span.0 n ≡ true) (λ (span : ℕ × ℕ). nat_le span.0 n ≡ false) spans place) where
    -- a run that it lies in begins no higher
    begins_before : list_any (is_in n) spans ≡ true → (k : ℕ) × (k < place) × ((d : ℕ × ℕ) → n < (slice_index_or spans k d).1)
    begins_before any = grind (arith, nat_tests, Any-from_list_any, in_one, get_or_default, leb-false)

    pub none_before : place ≤ 0 → nat_lt 0 place ≡ list_any (is_in n) spans
    none_before none = grind (arith, both_ways, ltb-true, begins_before)

    pub last_decides : (e : ℕ × ℕ) → 0 < place → nat_lt n (slice_index_or spans (place - 1) e).1 ≡ list_any (is_in n) spans
    last_decides e some_before = grind (arith, both_ways, list_any_at, one_in, leb-true, ltb-true, begins_before, lt-ltb, nat_tests, apart-pairs)

-- a run that is in the list
pub within-there : (spans : List (ℕ × ℕ)) (k : ℕ) (d : ℕ × ℕ) → k < length spans → IsWithin (slice_index_or spans k d) spans
within-there spans k d there n inside = list_any_at (is_in n) spans k d there inside

-- all of a list pass if all do in another order
pub all-permuted : (p : ℕ → Bool) (xs ys : List ℕ) → IsPermutation xs ys → list_all p xs ≡ list_all p ys
all-permuted p xs ys moved = none_fails xs ∙ ap not (list_any-IsPermutation (λ x. not (p x)) xs ys moved) ∙ sym (none_fails ys)
  where
    joined : (b t u : Bool) → t ≡ not u → (b && t) ≡ not (not b || u)
    joined true t u same = same
    joined false t u same = refl

    none_fails : (zs : List ℕ) → list_all p zs ≡ not (list_any (λ x. not (p x)) zs)
    none_fails [] = refl
    none_fails (z ∷ zs) = joined (p z) (list_all p zs) (list_any (λ x. not (p x)) zs) (none_fails zs)

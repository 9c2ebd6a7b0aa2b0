-- Runs are apart exactly if no number lies in two of them; so a list can be tested in another order.
use Rattle.{mg_model.specs.Tests.all_distinct, mg_rules.specs.Spans.{IsSome, apart_from, is_in, ordered_from, rises_from}, std.proofs.Common.Less}
use Rattle.std.proofs.{Common.{Equal, Greater, refl, sym, ap, ◌∙◌, subst, arith, ⊎_elim}, Math.Nat.zero-add, lemmas.Bool.{and_from, and_parts}}
use Rattle.std.proofs.lemmas.Bool.{cases_Bool, cases_lt, eqb-true, eq-eqb, le-leb, leb-true, lt-ltb, ltb-true, not-true, or_parts, Decides.nat_tests}
use Rattle.std.proofs.lemmas.List.{Elements.{All-cons, All-head, All-nil, All-tail}, Sorted.{sum_by-IsPermutation, IsPermutation-map}}
use Rattle.std.{proofs.lemmas.List.Sums.sum_by-cons, specs.{List.{AllAdjacentBelow, list_any, Sorted.{IsPermutation, IsSorted}}, Ordering.is_lt}}
use Rattle.std.specs.{Ordering.{nat_cmp, ordering_then}, Prelude.{◌≡◌, ℕ, zero, suc, ◌+◌, ◌<◌, ◌≤◌, ◌==◌, ◌&&◌, nat_le, nat_lt, not, Bool, true}}
use Rattle.std.specs.Prelude.{false, List, [], ◌∷◌, All, if◌then◌else◌, length, map, slice_index_or, sum_by}

-- in how many runs it lies
abbrev pub times : ℕ → List (ℕ × ℕ) → ℕ
times n spans = sum_by (λ (span : ℕ × ℕ). if is_in n span then 1 else 0) spans

-- a number as a run
abbrev pub unit : ℕ → ℕ × ℕ
unit n = (n, n + 1)

abbrev pub units : List ℕ → List (ℕ × ℕ)
units ns = map unit ns

-- two tests that follow from each other
pub both_ways : (a b : Bool) → (a ≡ true → b ≡ true) → (b ≡ true → a ≡ true) → a ≡ b
both_ways true b f g = sym (f refl)
both_ways false true f g = g refl
both_ways false false f g = refl

-- what one run adds
abbrev counted : ℕ → ℕ × ℕ → ℕ
counted n span = if is_in n span then 1 else 0

pub in_one : (n : ℕ) (span : ℕ × ℕ) → is_in n span ≡ true → (span.0 ≤ n) × (n < span.1)
in_one n span is = let p = and_parts (nat_le span.0 n) (nat_lt n span.1) is in (leb-true span.0 n p.0, ltb-true n span.1 p.1)

pub one_in : (n : ℕ) (span : ℕ × ℕ) → span.0 ≤ n → n < span.1 → is_in n span ≡ true
one_in n span low high = and_from (nat_le span.0 n) (nat_lt n span.1) (le-leb span.0 n low) (lt-ltb n span.1 high)

times_in : (n : ℕ) (span : ℕ × ℕ) (spans : List (ℕ × ℕ)) → is_in n span ≡ true → times n (span ∷ spans) ≡ 1 + times n spans
times_in n span spans is = sum_by-cons (counted n) span spans ∙ ap (λ b. (if b then 1 else 0) + times n spans) is

times_out : (n : ℕ) (span : ℕ × ℕ) (spans : List (ℕ × ℕ)) → is_in n span ≡ false → times n (span ∷ spans) ≡ times n spans
times_out n span spans is = sum_by-cons (counted n) span spans ∙ ap (λ b. (if b then 1 else 0) + times n spans) is ∙ zero-add (times n spans)

times_more : (n : ℕ) (span : ℕ × ℕ) (spans : List (ℕ × ℕ)) → times n spans ≤ times n (span ∷ spans)
times_more n span spans = ⊎_elim (λ t. let e = times_in n span spans t in omega arith) (λ f. let e = times_out n span spans f in omega arith) (cases_Bool (is_in n span))

-- below the bound there is nothing
none_below : (bound : ℕ) (spans : List (ℕ × ℕ)) → All IsSome spans → apart_from bound spans ≡ true → (n : ℕ) → n < bound → times n spans ≡ 0
none_below bound [] some apart n below = refl
none_below bound (span ∷ spans) some apart n below =
    let parts = and_parts (nat_le bound span.0) (apart_from span.1 spans) apart in
    let low : bound ≤ span.0 = leb-true bound span.0 parts.0 in
    let here : span.0 < span.1 = All-head IsSome span spans some in
    let rest = none_below span.1 spans (All-tail IsSome span spans some) parts.1 n (omega arith) in
    ⊎_elim (λ t. absurd (let i = in_one n span t in omega arith)) (λ f. times_out n span spans f ∙ rest) (cases_Bool (is_in n span))

-- runs that are apart have no number in common
once : (bound : ℕ) (spans : List (ℕ × ℕ)) → All IsSome spans → apart_from bound spans ≡ true → (n : ℕ) → times n spans ≤ 1
once bound [] some apart n = omega arith
once bound (span ∷ spans) some apart n =
    let parts = and_parts (nat_le bound span.0) (apart_from span.1 spans) apart in
    let tail = All-tail IsSome span spans some in
    ⊎_elim (λ t. let i = in_one n span t in let e = times_in n span spans t in let none = none_below span.1 spans tail parts.1 n i.1 in omega arith)
    (λ f. let e = times_out n span spans f in let r = once span.1 spans tail parts.1 n in omega arith)
    (cases_Bool (is_in n span))

-- runs in order that have none in common are apart
apart_behind : (span : ℕ × ℕ) (spans : List (ℕ × ℕ)) → ordered_from span.0 spans ≡ true → All IsSome (span ∷ spans) → ((n : ℕ) → times n (span ∷ spans) ≤ 1) → apart_from span.1 spans ≡ true
apart_behind span [] ordered some single = refl
apart_behind span (next ∷ spans) ordered some single =
    let parts = and_parts (nat_le span.0 next.0) (ordered_from next.0 spans) ordered in
    let low : span.0 ≤ next.0 = leb-true span.0 next.0 parts.0 in
    let tail = All-tail IsSome span (next ∷ spans) some in
    let here : next.0 < next.1 = All-head IsSome next spans tail in
    let rest = apart_behind next spans parts.1 tail (λ n. let m = times_more n span (next ∷ spans) in let s = single n in omega arith) in
    and_from (nat_le span.1 next.0) (apart_from next.1 spans)
    (⊎_elim
    (λ over. absurd (let a = times_in next.0 span (next ∷ spans) (one_in next.0 span low over) in let b = times_in next.0 next spans (one_in next.0 next (omega arith) here) in let s = single next.0 in omega arith))
    (λ apart. le-leb span.1 next.0 apart) (cases_lt next.0 span.1))
    rest

apart_ordered : (spans : List (ℕ × ℕ)) → ordered_from 0 spans ≡ true → All IsSome spans → ((n : ℕ) → times n spans ≤ 1) → apart_from 0 spans ≡ true
apart_ordered [] ordered some single = refl
apart_ordered (span ∷ spans) ordered some single = grind (arith, and_from, le-leb, apart_behind, and_parts)

-- Two lists in order, of which each number lies in as many runs, are apart alike.
pub apart-same : (xs ys : List (ℕ × ℕ)) → ordered_from 0 xs ≡ true → ordered_from 0 ys ≡ true → All IsSome xs → All IsSome ys → ((n : ℕ) → times n xs ≡ times n ys) → apart_from 0 xs ≡ apart_from 0 ys
apart-same xs ys ordered_x ordered_y some_x some_y same = grind (arith, both_ways, apart_ordered, once)

-- numbers
rises_apart : (bound : ℕ) (xs : List ℕ) → rises_from bound xs ≡ apart_from bound (units xs)
rises_apart bound [] = refl
rises_apart bound (x ∷ xs) = ap (λ t. nat_le bound x && t) (rises_apart (x + 1) xs)

units_some : (xs : List ℕ) → All IsSome (units xs)
units_some [] = All-nil IsSome
units_some (x ∷ xs) = All-cons IsSome (unit x) (units xs) (omega arith) (units_some xs)

-- a number that is in the list is counted
is_in_unit : (n x : ℕ) → is_in n (unit x) ≡ (n == x)
is_in_unit n x = grind (arith, nat_tests)

not_there : (n : ℕ) (xs : List ℕ) → list_any (λ y. n == y) xs ≡ false → times n (units xs) ≡ 0
not_there n [] is = refl
not_there n (x ∷ xs) is =
    let parts = or_parts (n == x) (list_any (λ y. n == y) xs) is in
    times_out n (unit x) (units xs) (is_in_unit n x ∙ parts.0) ∙ not_there n xs parts.1

there : (n : ℕ) (xs : List ℕ) → list_any (λ y. n == y) xs ≡ true → 1 ≤ times n (units xs)
there n [] is = absurd (cc)
there n (x ∷ xs) is = ⊎_elim here (later (there n xs)) (cases_Bool (n == x))
  where
    here : (n == x) ≡ true → 1 ≤ times n (units (x ∷ xs))
    here t = let e = times_in n (unit x) (units xs) (is_in_unit n x ∙ t) in omega arith

    later : (list_any (λ y. n == y) xs ≡ true → 1 ≤ times n (units xs)) → (n == x) ≡ false → 1 ≤ times n (units (x ∷ xs))
    later more f = grind (arith, times_more)

distinct_once : (xs : List ℕ) → all_distinct xs ≡ true → (n : ℕ) → times n (units xs) ≤ 1
distinct_once [] distinct n = omega arith
distinct_once (x ∷ xs) distinct n =
    let parts = and_parts (not (list_any (λ y. x == y) xs)) (all_distinct xs) distinct in
    ⊎_elim (here parts.0) (later (distinct_once xs parts.1 n)) (cases_Bool (n == x))
  where
    here : not (list_any (λ y. x == y) xs) ≡ true → (n == x) ≡ true → times n (units (x ∷ xs)) ≤ 1
    here new t =
        let e = times_in n (unit x) (units xs) (is_in_unit n x ∙ t) in
        let is : n ≡ x = eqb-true n x t in
        let none : times x (units xs) ≡ 0 = not_there x xs (not-true (list_any (λ y. x == y) xs) new) in
        let same = ap (λ k. times k (units xs)) is in
        omega arith

    later : times n (units xs) ≤ 1 → (n == x) ≡ false → times n (units (x ∷ xs)) ≤ 1
    later rest f = let e = times_out n (unit x) (units xs) (is_in_unit n x ∙ f) in omega arith

once_distinct : (xs : List ℕ) → ((n : ℕ) → times n (units xs) ≤ 1) → all_distinct xs ≡ true
once_distinct [] single = refl
once_distinct (x ∷ xs) single = and_from (not (list_any (λ y. x == y) xs)) (all_distinct xs) (⊎_elim twice new (cases_Bool (list_any (λ y. x == y) xs))) (once_distinct xs (λ n. let m = times_more n (unit x) (units xs) in let s = single n in omega arith))
  where
    twice : list_any (λ y. x == y) xs ≡ true → not (list_any (λ y. x == y) xs) ≡ true
    twice t = absurd (let a = there x xs t in let e = times_in x (unit x) (units xs) (is_in_unit x x ∙ eq-eqb x x refl) in let s = single x in omega arith)

    new : list_any (λ y. x == y) xs ≡ false → not (list_any (λ y. x == y) xs) ≡ true
    new f = ap not f

-- Numbers are distinct exactly if they rise in another order of theirs that does not fall.
pub distinct-same : (xs ys : List ℕ) → IsPermutation xs ys → ordered_from 0 (units ys) ≡ true → all_distinct xs ≡ rises_from 0 ys
distinct-same xs ys moved ordered =
    both_ways (all_distinct xs) (apart_from 0 (units ys))
    (λ distinct. apart_ordered (units ys) ordered (units_some ys) (λ n. let d = distinct_once xs distinct n in let e = same n in omega arith))
    (λ apart. once_distinct xs (λ n. let o = once 0 (units ys) (units_some ys) apart n in let e = same n in omega arith))
    ∙ sym (rises_apart 0 ys)
  where
    same : (n : ℕ) → times n (units ys) ≡ times n (units xs)
    same n = sum_by-IsPermutation (λ (span : ℕ × ℕ). if is_in n span then 1 else 0) (units xs) (units ys) (IsPermutation-map unit xs ys moved)

-- a list of which neighbours are in order
pub ordered-adjacent : (span : ℕ × ℕ) (spans : List (ℕ × ℕ)) → AllAdjacentBelow (λ (x y : ℕ × ℕ). x.0 ≤ y.0) (span ∷ spans) (length (span ∷ spans)) → ordered_from span.0 spans ≡ true
ordered-adjacent span [] each = refl
ordered-adjacent span (next ∷ spans) each =
    and_from (nat_le span.0 next.0) (ordered_from next.0 spans)
    (le-leb span.0 next.0 (each 0 span (omega arith)))
    (ordered-adjacent next spans (λ k d below.
    let P : ℕ → Type 0 = λ j. (slice_index_or (next ∷ spans) k d).0 ≤ (slice_index_or (span ∷ next ∷ spans) j d).0 in
    let e : suc k + 1 ≡ suc (k + 1) = omega arith in
    subst P e (each (suc k) d (omega arith))))

pub ordered-all : (spans : List (ℕ × ℕ)) → AllAdjacentBelow (λ (x y : ℕ × ℕ). x.0 ≤ y.0) spans (length spans) → ordered_from 0 spans ≡ true
ordered-all [] each = refl
ordered-all (span ∷ spans) each = and_from (nat_le 0 span.0) (ordered_from span.0 spans) (le-leb 0 span.0 (omega arith)) (ordered-adjacent span spans each)

-- what a sort says of neighbours
pair_le : (x y : ℕ × ℕ) → is_lt (ordering_then (nat_cmp y.0 x.0) (nat_cmp y.1 x.1)) ≡ false → x.0 ≤ y.0
pair_le x y no_less = grind (arith, nat_tests, Less, Equal, Greater, lt-ltb)

number_le : (x y : ℕ) → is_lt (nat_cmp y x) ≡ false → x ≤ y
number_le x y no_less = grind (arith, nat_tests, Less, Equal, Greater, lt-ltb)

pub sorted-pairs : (spans : List (ℕ × ℕ)) → IsSorted (λ (x y : ℕ × ℕ). ordering_then (nat_cmp x.0 y.0) (nat_cmp x.1 y.1)) spans → ordered_from 0 spans ≡ true
sorted-pairs spans sorted = ordered-all spans (λ k d below. pair_le (slice_index_or spans k d) (slice_index_or spans (k + 1) d) (sorted k d (omega arith) below))

units_ordered : (x : ℕ) (xs : List ℕ) → AllAdjacentBelow (λ a b. a ≤ b) (x ∷ xs) (length (x ∷ xs)) → ordered_from x (units xs) ≡ true
units_ordered x [] each = refl
units_ordered x (y ∷ xs) each =
    and_from (nat_le x y) (ordered_from y (units xs))
    (le-leb x y (each 0 x (omega arith)))
    (units_ordered y xs (λ k d below.
    let P : ℕ → Type 0 = λ j. slice_index_or (y ∷ xs) k d ≤ slice_index_or (x ∷ y ∷ xs) j d in
    let e : suc k + 1 ≡ suc (k + 1) = omega arith in
    subst P e (each (suc k) d (omega arith))))

pub sorted-numbers : (xs : List ℕ) → IsSorted nat_cmp xs → ordered_from 0 (units xs) ≡ true
sorted-numbers [] sorted = refl
sorted-numbers (x ∷ xs) sorted =
    and_from (nat_le 0 x) (ordered_from x (units xs)) (le-leb 0 x (omega arith))
    (units_ordered x xs (λ k d below. number_le (slice_index_or (x ∷ xs) k d) (slice_index_or (x ∷ xs) (k + 1) d) (sorted k d (omega arith) below)))

-- what runs that are apart are, place by place
behind_bound : (bound : ℕ) (spans : List (ℕ × ℕ)) → All IsSome spans → apart_from bound spans ≡ true → (j : ℕ) (d : ℕ × ℕ) → j < length spans → bound ≤ (slice_index_or spans j d).0
behind_bound bound [] some apart j d below = absurd (omega arith)
behind_bound bound (span ∷ spans) some apart zero d below = leb-true bound span.0 (and_parts (nat_le bound span.0) (apart_from span.1 spans) apart).0
behind_bound bound (span ∷ spans) some apart (suc j) d below =
    let parts = and_parts (nat_le bound span.0) (apart_from span.1 spans) apart in
    let low : bound ≤ span.0 = leb-true bound span.0 parts.0 in
    let here : span.0 < span.1 = All-head IsSome span spans some in
    let rest = behind_bound span.1 spans (All-tail IsSome span spans some) parts.1 j d (omega arith) in
    omega arith

pub apart-pairs : (bound : ℕ) (spans : List (ℕ × ℕ)) → All IsSome spans → apart_from bound spans ≡ true → (i j : ℕ) (d : ℕ × ℕ) → i < j → j < length spans → (slice_index_or spans i d).1 ≤ (slice_index_or spans j d).0
apart-pairs bound [] some apart i j d before below = absurd (omega arith)
apart-pairs bound (span ∷ spans) some apart i zero d before below = absurd (omega arith)
apart-pairs bound (span ∷ spans) some apart zero (suc j) d before below =
    behind_bound span.1 spans (All-tail IsSome span spans some) (and_parts (nat_le bound span.0) (apart_from span.1 spans) apart).1 j d (omega arith)
apart-pairs bound (span ∷ spans) some apart (suc i) (suc j) d before below =
    apart-pairs span.1 spans (All-tail IsSome span spans some) (and_parts (nat_le bound span.0) (apart_from span.1 spans) apart).1 i j d (omega arith) (omega arith)

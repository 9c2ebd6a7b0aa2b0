-- No number occurs twice in a table after a number is bound, or some are released.
use Rattle.std.proofs.{Common.{refl, sym, ap, ◌∙◌, inl, inr, ⊎_elim, arith, get_or}, lemmas.Bool.{and_from, and_parts}}
use Rattle.std.proofs.lemmas.Bool.{both_ways, cases_cond, cond_both, eq-eqb, eqb-false, ne_eqb, not-true, or_left}
use Rattle.std.proofs.lemmas.{Bool.{or_parts, or_right}, List.Elements.{All-filter, All-from_get_or}}
use Rattle.std.{proofs.lemmas.List.Folds.list_any_none, specs.{List.list_any, Prelude.{◌≡◌, ◌≢◌, ◌⊎◌, ◌==◌, ℕ, zero}}}
use Rattle.std.specs.Prelude.{suc, true, false, not, List, [], ◌∷◌, map, replicate, slice_index, slice_set}
use Rattle.mg_index.specs.{ListLemmas.map-at, Words.{is_within, numbers_in, unless_within}}
use Rattle.mg_model.specs.Tests.{all_distinct}

-- numbers are distinct if no two places have one number
pub own-distinct : (xs : List ℕ) → ((j k : ℕ) → j ≢ k → slice_index xs j ≢ 0 → slice_index xs j ≢ slice_index xs k) → all_distinct (numbers_in xs) ≡ true
own-distinct [] own = refl
own-distinct (x ∷ xs) own =
    cond_both (not (x == 0)) (x ∷ numbers_in xs) (numbers_in xs) (λ (ys : List ℕ). all_distinct ys ≡ true)
    (λ t. and_from (not (list_any (λ y. x == y) (numbers_in xs))) (all_distinct (numbers_in xs))
    (ap not (list_any_none (λ y. x == y) (numbers_in xs)
    (All-filter (λ y. not (y == 0)) (λ y. (x == y) ≡ false) xs
    (All-from_get_or (λ y. (x == y) ≡ false) xs 0 (λ k under. ne_eqb x (get_or xs k 0) (own 0 (suc k) (omega arith) (eqb-false x 0 (not-true (x == 0) t))))))))
    (own-distinct xs (λ j k other. own (suc j) (suc k) (omega arith))))
    (λ _. own-distinct xs (λ j k other. own (suc j) (suc k) (omega arith)))

-- and no two have one if they are
pub distinct-parts : (xs : List ℕ) (x : ℕ) → all_distinct (x ∷ xs) ≡ true → (list_any (λ y. x == y) xs ≡ false) × (all_distinct xs ≡ true)
distinct-parts xs x is =
    let parts = and_parts (not (list_any (λ y. x == y) xs)) (all_distinct xs) is in
    (not-true (list_any (λ y. x == y) xs) parts.0, parts.1)

there : (xs : List ℕ) (k x : ℕ) → x ≢ 0 → x ≡ slice_index xs k → list_any (λ y. x == y) (numbers_in xs) ≡ true
there [] k x some is = absurd (some is)
there (y ∷ ys) zero x some is = rw (ne_eqb y 0 (λ free. some (is ∙ free))) (or_left (x == y) (list_any (λ z. x == z) (numbers_in ys)) (eq-eqb x y is))
there (y ∷ ys) (suc k) x some is =
    cond_both (not (y == 0)) (y ∷ numbers_in ys) (numbers_in ys) (λ (zs : List ℕ). list_any (λ z. x == z) zs ≡ true)
    (λ _. or_right (x == y) (list_any (λ z. x == z) (numbers_in ys)) (there ys k x some is)) (λ _. there ys k x some is)

first-own : (xs : List ℕ) (x k : ℕ) → all_distinct (numbers_in (x ∷ xs)) ≡ true → x ≢ 0 → x ≢ slice_index xs k
first-own xs x k is some same =
    let whole : all_distinct (x ∷ numbers_in xs) ≡ true = rw (ne_eqb x 0 some) at is in
    both_ways (list_any (λ y. x == y) (numbers_in xs)) (distinct-parts (numbers_in xs) x whole).0 (there xs k x some same)

rest-distinct : (xs : List ℕ) (x : ℕ) → all_distinct (numbers_in (x ∷ xs)) ≡ true → all_distinct (numbers_in xs) ≡ true
rest-distinct xs x is =
    cond_both (not (x == 0)) (x ∷ numbers_in xs) (numbers_in xs) (λ (ys : List ℕ). all_distinct ys ≡ true → all_distinct (numbers_in xs) ≡ true)
    (λ _ whole. (distinct-parts (numbers_in xs) x whole).1) (λ _ whole. whole) is

pub distinct-own : (xs : List ℕ) (j k : ℕ) → all_distinct (numbers_in xs) ≡ true → j ≢ k → slice_index xs j ≢ 0 → slice_index xs j ≢ slice_index xs k
distinct-own [] j k is other some same = some refl
distinct-own (x ∷ xs) zero zero is other some same = other refl
distinct-own (x ∷ xs) zero (suc k) is other some same = first-own xs x k is some same
distinct-own (x ∷ xs) (suc j) zero is other some same = first-own xs x j is (λ free. some (same ∙ free)) (sym same)
distinct-own (x ∷ xs) (suc j) (suc k) is other some same = distinct-own xs j k (rest-distinct xs x is) (λ e. other (ap suc e)) some same

-- a number that is not there may be entered anywhere
set-cases : (xs : List ℕ) (i number k : ℕ) → (slice_index (slice_set xs i number) k ≡ slice_index xs k) ⊎ ((k ≡ i) × (slice_index (slice_set xs i number) k ≡ number))
set-cases [] i number k = inl refl
set-cases (x ∷ xs) zero number zero = inr (refl, refl)
set-cases (x ∷ xs) zero number (suc k) = inl refl
set-cases (x ∷ xs) (suc i) number zero = inl refl
set-cases (x ∷ xs) (suc i) number (suc k) = ⊎_elim inl (λ here. inr (ap suc here.0, here.1)) (set-cases xs i number k)

unbound : (xs : List ℕ) (number k : ℕ) → number ≢ 0 → list_any (λ entry. entry == number) xs ≡ false → slice_index xs k ≢ number
unbound [] number k some none is = some (sym is)
unbound (x ∷ xs) number zero some none is = both_ways (x == number) (or_parts (x == number) (list_any (λ entry. entry == number) xs) none).0 (eq-eqb x number is)
unbound (x ∷ xs) number (suc k) some none is = unbound xs number k some (or_parts (x == number) (list_any (λ entry. entry == number) xs) none).1 is

pub distinct-put : (xs : List ℕ) (i number : ℕ) → number ≢ 0 → list_any (λ entry. entry == number) xs ≡ false → all_distinct (numbers_in xs) ≡ true → all_distinct (numbers_in (slice_set xs i number)) ≡ true
distinct-put xs i number some none is =
    own-distinct (slice_set xs i number)
    (λ j k other here same.
    ⊎_elim
    (λ a.
    ⊎_elim (λ b. distinct-own xs j k is other (λ free. here (a ∙ free)) (sym a ∙ same ∙ b)) (λ b. unbound xs number j some none (sym a ∙ same ∙ b.1))
    (set-cases xs i number k))
    (λ a. ⊎_elim (λ b. unbound xs number k some none (sym b ∙ sym same ∙ a.1)) (λ b. other (a.0 ∙ sym b.0)) (set-cases xs i number k)) (set-cases xs i number j))

-- free places
pub distinct-free : (n : ℕ) → all_distinct (numbers_in (replicate n 0)) ≡ true
distinct-free zero = refl
distinct-free (suc n) = distinct-free n

-- what is released is free, the rest stays
pub within_or_not : (first count x : ℕ) → (unless_within first count x ≡ 0) ⊎ (unless_within first count x ≡ x)
within_or_not first count x = cases_cond (is_within first count x) 0 x (unless_within first count x) refl

pub zero-stays : (first count : ℕ) → unless_within first count 0 ≡ 0
zero-stays first count = ⊎_elim (λ is. is) (λ is. is) (within_or_not first count 0)

pub distinct-released : (first count : ℕ) (xs : List ℕ) → all_distinct (numbers_in xs) ≡ true → all_distinct (numbers_in (map (unless_within first count) xs)) ≡ true
distinct-released first count xs is =
    own-distinct (map (unless_within first count) xs)
    (λ j k other here same.
    let a = map-at (unless_within first count) (zero-stays first count) xs j in
    let b = map-at (unless_within first count) (zero-stays first count) xs k in
    let old = kept (slice_index xs j) (λ free. here (a ∙ free)) in
    distinct-own xs j k is other (λ free. here (a ∙ old ∙ free)) (sym old ∙ sym a ∙ same ∙ b ∙ kept (slice_index xs k) (λ free. here (same ∙ b ∙ free))))
  where
    kept : (x : ℕ) → unless_within first count x ≢ 0 → unless_within first count x ≡ x
    kept x some = ⊎_elim (λ free. absurd (some free)) (λ same. same) (within_or_not first count x)

-- A frame is free for each page of an object that is not bound: there are as many frames as the objects have pages at most.
use Rattle.{mg_model.specs.{Objects.page_of, State.ObjectRow, Tests.all_distinct, Volume.bound_pages}, mg_volume.specs.Meaning.is_page_in}
use Rattle.std.proofs.{Common.{refl, sym, ap, ◌∙◌, ⊎_elim, inl, inr, arith}, lemmas.Bool.{and_from, and_parts, both_ways, cases_Bool, eqb-true}}
use Rattle.std.{proofs.lemmas.{Bool.{not-true, not_from_false, Decides.nat_tests}, List.Sums.sum_by-cons}, specs.List.{list_all, list_any}}
use Rattle.std.specs.Prelude.{◌≡◌, ◌⊎◌, ◌+◌, ◌≤◌, ◌==◌, ◌&&◌, ◌||◌, nat_le, nat_lt, ℕ, zero, suc, Bool, true, false, not, List, [], ◌∷◌, filter}
use Rattle.std.specs.Prelude.{length, map, sum_by}

any-filter : (p : ℕ → Bool) (x : ℕ) (xs : List ℕ) → list_any (λ y. x == y) xs ≡ false → list_any (λ y. x == y) (filter p xs) ≡ false
any-filter p x [] out = refl
any-filter p x (y ∷ ys) out = grind (arith, out, any-filter p x ys)

distinct-filter : (p : ℕ → Bool) (xs : List ℕ) → all_distinct xs ≡ true → all_distinct (filter p xs) ≡ true
distinct-filter p [] d = refl
distinct-filter p (x ∷ xs) d = grind (arith, d, any-filter p x xs, distinct-filter p xs)

length-split : (p : ℕ → Bool) (xs : List ℕ) → length (filter p xs) + length (filter (λ x. not (p x)) xs) ≡ length xs
length-split p [] = refl
length-split p (x ∷ xs) = grind (arith, length-split p xs)

-- what all pass, and those that pass p besides
all-refined : (p q r : ℕ → Bool) → ((x : ℕ) → p x ≡ true → q x ≡ true → r x ≡ true) → (xs : List ℕ) → list_all q xs ≡ true → list_all r (filter p xs) ≡ true
all-refined p q r both [] all = refl
all-refined p q r both (x ∷ xs) all = grind (arith, all, both x, all-refined p q r both xs)

none-equal : (k : ℕ) (xs : List ℕ) → list_any (λ y. k == y) xs ≡ false → length (filter (λ y. y == k) xs) ≡ 0
none-equal k [] out = refl
none-equal k (x ∷ xs) out = grind (arith, nat_tests, out, none-equal k xs)

once : (k : ℕ) (xs : List ℕ) → all_distinct xs ≡ true → length (filter (λ y. y == k) xs) ≤ 1
once k [] d = omega arith
once k (x ∷ xs) d =
    let parts = and_parts (not (list_any (λ y. x == y) xs)) (all_distinct xs) d in
    ⊎_elim
    (λ t.
    let is : x ≡ k = eqb-true x k t in
    let rest = none-equal k xs (ap (λ j. list_any (λ y. j == y) xs) (sym is) ∙ not-true (list_any (λ y. x == y) xs) parts.0) in
    grind arith)
    (λ f. let rest = once k xs parts.1 in grind arith)
    (cases_Bool (x == k))

abbrev in_range : ℕ → ℕ → ℕ → Bool
in_range first n x = nat_le first x && nat_lt x (first + n)

-- distinct numbers of a range
range-bound : (first n : ℕ) (xs : List ℕ) → all_distinct xs ≡ true → list_all (in_range first n) xs ≡ true → length xs ≤ n
range-bound first zero [] d all = omega arith
range-bound first zero (x ∷ xs) d all = absurd (grind (arith, nat_tests, all))
range-bound first (suc n) xs d all =
    let last = first + n in
    let split = length-split (λ y. y == last) xs in
    let few = once last xs d in
    let rest =
    range-bound first n (filter (λ y. not (y == last)) xs) (distinct-filter (λ y. not (y == last)) xs d)
    (all-refined (λ y. not (y == last)) (in_range first (suc n)) (in_range first n) (λ x other within. grind (arith, nat_tests, other, within)) xs all) in
    omega arith

-- distinct pages, each in an object
pages-bound : (os : List (ℕ × ObjectRow)) (xs : List ℕ) → all_distinct xs ≡ true → list_all (λ page. list_any (λ row. is_page_in page row) (map (λ (o : ℕ × ObjectRow). o.1) os)) xs ≡ true
    → length xs ≤ sum_by (λ (o : ℕ × ObjectRow). o.1.pages) os
pages-bound [] [] d all = omega arith
pages-bound [] (x ∷ xs) d all = absurd (both_ways false refl all)
pages-bound (o ∷ os) xs d all =
    let split = length-split (λ page. is_page_in page o.1) xs in
    let here = range-bound (page_of o.1) o.1.pages (filter (λ page. is_page_in page o.1) xs) (distinct-filter (λ page. is_page_in page o.1) xs d)
    (all-refined (λ page. is_page_in page o.1) (λ page. list_any (λ row. is_page_in page row) (map (λ (o : ℕ × ObjectRow). o.1) (o ∷ os))) (in_range (page_of o.1) o.1.pages) (λ x inside any. inside) xs all) in
    let rest = pages-bound os (filter (λ page. not (is_page_in page o.1)) xs) (distinct-filter (λ page. not (is_page_in page o.1)) xs d)
    (all-refined (λ page. not (is_page_in page o.1)) (λ page. list_any (λ row. is_page_in page row) (map (λ (o : ℕ × ObjectRow). o.1) (o ∷ os))) (λ page. list_any (λ row. is_page_in page row) (map (λ (o : ℕ × ObjectRow). o.1) os))
    (λ x outside any. sym (ap (λ t. t || list_any (λ row. is_page_in x row) (map (λ (o : ℕ × ObjectRow). o.1) os)) (not-true (is_page_in x o.1) outside)) ∙ any) xs all) in
    let sum = sum_by-cons (λ (o : ℕ × ObjectRow). o.1.pages) o os in
    omega arith

bound-all : (table : List ℕ) → list_any (λ entry. entry == 0) table ≡ false → bound_pages table ≡ table
bound-all [] out = refl
bound-all (entry ∷ table) out = grind (arith, out, bound-all table)

any-turned : (page : ℕ) (table : List ℕ) → list_any (λ entry. entry == page) table ≡ false → list_any (λ entry. page == entry) table ≡ false
any-turned page [] out = refl
any-turned page (entry ∷ table) out = grind (arith, nat_tests, out, any-turned page table)

pub free_frame : (os : List (ℕ × ObjectRow)) (table : List ℕ) (page : ℕ) → all_distinct (bound_pages table) ≡ true
    → list_all (λ page. list_any (λ row. is_page_in page row) (map (λ (o : ℕ × ObjectRow). o.1) os)) (bound_pages table) ≡ true
    → list_any (λ row. is_page_in page row) (map (λ (o : ℕ × ObjectRow). o.1) os) ≡ true
    → sum_by (λ (o : ℕ × ObjectRow). o.1.pages) os ≤ length table
    → (list_any (λ entry. entry == page) table ≡ true) ⊎ (list_any (λ entry. entry == 0) table ≡ true)
free_frame os table page d all has fit =
    ⊎_elim (λ bound. inl bound)
    (λ unbound.
    ⊎_elim (λ free. inr free)
    (λ full.
    let whole = bound-all table full in
    let many =
    pages-bound os (page ∷ table) (and_from (not (list_any (λ y. page == y) table)) (all_distinct table) (not_from_false (list_any (λ y. page == y) table) (any-turned page table unbound)) (ap all_distinct (sym whole) ∙ d))
    (and_from (list_any (λ row. is_page_in page row) (map (λ (o : ℕ × ObjectRow). o.1) os)) (list_all (λ page. list_any (λ row. is_page_in page row) (map (λ (o : ℕ × ObjectRow). o.1) os)) table) has
    (ap (list_all (λ page. list_any (λ row. is_page_in page row) (map (λ (o : ℕ × ObjectRow). o.1) os))) (sym whole) ∙ all)) in
    absurd (omega arith))
    (cases_Bool (list_any (λ entry. entry == 0) table)))
    (cases_Bool (list_any (λ entry. entry == page) table))

-- Lists of which each two elements are in order, and what they contain, after an insertion and once a part is taken out.
use Rattle.{mg_index.specs.ListLemmas.{contains-behind, contains-cases, contains-here}, std.proofs.Common.{sym, ap, ◌∙◌, subst, ⊎_elim, arith}}
use Rattle.std.proofs.{Common.{get_or, length-append, length-drop}, lemmas.{Bool.{cases_eq, cases_lt}, List.{append-nil, drop_all, get_or-drop}}}
use Rattle.std.proofs.lemmas.List.{get_or-take, get_or_append_left, get_or-append_right, get_or_default, length-take-le, take_all}
use Rattle.std.proofs.lemmas.List.{Edits.{get_or-insert_above, get_or-insert_at, get_or-insert_below, length-insert}, Sorted.Contains-permutation}
use Rattle.std.{proofs.lemmas.List.Sorted.{IsPermutation-insert, IsPermutation-sym}, specs.{List.{AllPairs, Contains, remove_range}, Prelude.◌≡◌}}
use Rattle.std.specs.Prelude.{◌+◌, ◌-◌, ◌<◌, ◌≤◌, ◌⊎◌, ℕ, List, ◌∷◌, ◌++◌, insert, length, drop, take}

-- what is at a place is contained
pub contains-at : {X : Type 0} (xs : List X) (k : ℕ) (d x : X) → k < length xs → get_or xs k d ≡ x → Contains xs x
contains-at xs k d x below is = (k, below, get_or_default xs k x d below ∙ is)

-- an element that is added
pub insert-has : {X : Type 0} (xs : List X) (i : ℕ) (y : X) → Contains (insert xs i y) y
insert-has xs i y = Contains-permutation (y ∷ xs) (insert xs i y) y (IsPermutation-insert xs i y) (contains-here y xs)

pub insert-keeps : {X : Type 0} (xs : List X) (i : ℕ) (y x : X) → Contains xs x → Contains (insert xs i y) x
insert-keeps xs i y x there = Contains-permutation (y ∷ xs) (insert xs i y) x (IsPermutation-insert xs i y) (contains-behind y x xs there)

pub insert-cases : {X : Type 0} (xs : List X) (i : ℕ) (y x : X) → Contains (insert xs i y) x → (y ≡ x) ⊎ Contains xs x
insert-cases xs i y x there = contains-cases y x xs (Contains-permutation (insert xs i y) (y ∷ xs) x (IsPermutation-sym (y ∷ xs) (insert xs i y) (IsPermutation-insert xs i y)) there)

-- a place after an insertion
pub data Place (i j : ℕ) : Type 0 where
  is_below : j < i → Place i j
  is_at : j ≡ i → Place i j
  is_above : (k : ℕ) → i ≤ k → j ≡ k + 1 → Place i j

pub place : (i j : ℕ) → Place i j
place i j = ⊎_elim is_below (λ le. ⊎_elim is_at (λ other. is_above (j - 1) (omega arith) (omega arith)) (cases_eq j i)) (cases_lt j i)

-- an element added between those that come before it and those that come after
pub insert-pairs :
    {X : Type 0} (R : X → X → Type 0) (xs : List X) (i : ℕ) (y : X) → i ≤ length xs → AllPairs R xs
    → ((k : ℕ) (d : X) → k < i → R (get_or xs k d) y) → ((k : ℕ) (d : X) → i ≤ k → k < length xs → R y (get_or xs k d)) → AllPairs R (insert xs i y)
insert-pairs {X} R xs i y within each before behind a b d order under = go (place i a) (place i b)
  where
    l : length (insert xs i y) ≡ length xs + 1
    l = length-insert xs i y within

    at_below : (j : ℕ) → j < i → get_or (insert xs i y) j d ≡ get_or xs j d
    at_below j b = get_or-insert_below xs i y d j b within

    at_same : (j : ℕ) → j ≡ i → get_or (insert xs i y) j d ≡ y
    at_same j e = ap (λ k. get_or (insert xs i y) k d) e ∙ get_or-insert_at xs i y d within

    at_above : (j k : ℕ) → i ≤ k → j ≡ k + 1 → get_or (insert xs i y) j d ≡ get_or xs k d
    at_above j k le e = ap (λ k. get_or (insert xs i y) k d) e ∙ get_or-insert_above xs i y d k le within

    both : (u v p q : X) → u ≡ p → v ≡ q → R p q → R u v
    both u v p q e f r = subst (λ (w : X). R u w) (sym f) (subst (λ (w : X). R w q) (sym e) r)

    go : Place i a → Place i b → R (get_or (insert xs i y) a d) (get_or (insert xs i y) b d)
    go (is_below u) (is_below v) = both _ _ _ _ (at_below a u) (at_below b v) (each a b d order (omega (arith, l)))
    go (is_below u) (is_at v) = both _ _ _ _ (at_below a u) (at_same b v) (before a d u)
    go (is_below u) (is_above k v e) = both _ _ _ _ (at_below a u) (at_above b k v e) (each a k d (omega (arith, l)) (omega (arith, l)))
    go (is_at u) (is_below v) = absurd (omega (arith, l))
    go (is_at u) (is_at v) = absurd (omega (arith, l))
    go (is_at u) (is_above k v e) = both _ _ _ _ (at_same a u) (at_above b k v e) (behind k d v (omega (arith, l)))
    go (is_above k u e) (is_below v) = absurd (omega (arith, l))
    go (is_above k u e) (is_at v) = absurd (omega (arith, l))
    go (is_above k u e) (is_above m v f) = both _ _ _ _ (at_above a k u e) (at_above b m v f) (each k m d (omega (arith, l)) (omega (arith, l)))

-- a list without the elements from one place to before another
pub length-cut : {X : Type 0} (xs : List X) (i j : ℕ) → i ≤ j → j ≤ length xs → length (remove_range xs i j) + (j - i) ≡ length xs
length-cut xs i j order within = grind (arith, length-append, length-take-le, length-drop)

pub cut-below : {X : Type 0} (xs : List X) (i j k : ℕ) (d : X) → i ≤ j → j ≤ length xs → k < i → get_or (remove_range xs i j) k d ≡ get_or xs k d
cut-below xs i j k d order within below = grind (arith, length-take-le, get_or_append_left, get_or-take)

pub cut-above : {X : Type 0} (xs : List X) (i j k : ℕ) (d : X) → i ≤ j → j ≤ length xs → i ≤ k → get_or (remove_range xs i j) k d ≡ get_or xs (j + (k - i)) d
cut-above xs i j k d order within above = grind (arith, get_or-append_right, length-take-le, get_or-drop)

pub cut-pairs : {X : Type 0} (R : X → X → Type 0) (xs : List X) (i j : ℕ) → i ≤ j → j ≤ length xs → AllPairs R xs → AllPairs R (remove_range xs i j)
cut-pairs {X} R xs i j order within each a b d before under = grind (arith, cases_lt, length-cut, cut-below, cut-above)

-- what is outside the part stays, and nothing else
pub cut-keeps : {X : Type 0} (xs : List X) (i j k : ℕ) (x : X) → i ≤ j → j ≤ length xs → k < length xs → get_or xs k x ≡ x → (k < i) ⊎ (j ≤ k) → Contains (remove_range xs i j) x
cut-keeps {X} xs i j k x order within under is outside = ⊎_elim low high outside
  where
    l : length (remove_range xs i j) + (j - i) ≡ length xs
    l = length-cut xs i j order within

    low : k < i → Contains (remove_range xs i j) x
    low below = contains-at (remove_range xs i j) k x x (omega (arith, l)) (cut-below xs i j k x order within below ∙ is)

    high : j ≤ k → Contains (remove_range xs i j) x
    high above =
        let e : j + (i + (k - j) - i) ≡ k = omega (arith, l) in
        contains-at (remove_range xs i j) (i + (k - j)) x x (omega (arith, l)) (cut-above xs i j (i + (k - j)) x order within (omega (arith, l)) ∙ ap (λ m. get_or xs m x) e ∙ is)

pub cut-had : {X : Type 0} (xs : List X) (i j : ℕ) (x : X) → i ≤ j → j ≤ length xs → Contains (remove_range xs i j) x → (k : ℕ) × (k < length xs) × (get_or xs k x ≡ x) × ((k < i) ⊎ (j ≤ k))
cut-had {X} xs i j x order within there = grind (arith, cases_lt, length-cut, cut-below, cut-above)

-- what a write to the slice of a whole vector leaves
pub all_over : (n : ℕ) (new old : List ℕ) → length new ≡ n → length old ≡ n → take n (new ++ drop (length new) old) ≡ new
all_over n new old is was = grind (arith, drop_all, append-nil, take_all)

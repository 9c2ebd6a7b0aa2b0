-- A list of objects without the one at an index, which is the list without its base.
use Rattle.mg_model.specs.{KeptListLemmas.{AllPairs-head, AllPairs-nil, AllPairs-tail}, Objects.{page_behind, page_of}, Ranges.IsObjectRow}
use Rattle.{mg_model.specs.State.ObjectRow, mg_volume.specs.{Meaning.rows_apart, RowLists.DistinctBy}, std.proofs.Common.{refl, sym, ap, subst}}
use Rattle.std.proofs.{Common.{get_or, ◌∙◌, ⊎_elim, inl, inr, arith}, lemmas.Bool.{and_from, and_parts, cases_eq, cases_lt, le-leb, leb-true}}
use Rattle.std.proofs.lemmas.{Bool.Decides.nat_tests, List.{get_or_default, Elements.{All-cons, All-get_or, All-head, All-nil, All-tail, All-weaker}}}
use Rattle.std.{proofs.lemmas.List.Kept.AllPairs-cons, specs.{List.list_any, Prelude.{◌≡◌, ◌≢◌, ◌⊎◌, ◌/◌, ◌≤◌, ◌<◌, ◌==◌, nat_le, ℕ, zero, suc}}}
use Rattle.std.specs.Prelude.{Bool, true, not, All, AllPairs, List, [], ◌∷◌, filter, find, length, map, remove}

-- none goes if none has the key
pub filter-all : {X : Type 0} (key : X → ℕ) (k : ℕ) (xs : List X) → All (λ y. key y ≢ k) xs → filter (λ y. not (key y == k)) xs ≡ xs
filter-all key k [] absent = refl
filter-all key k (x ∷ xs) absent = grind (arith, nat_tests, All-head (λ y. key y ≢ k) x xs absent, filter-all key k xs (All-tail (λ y. key y ≢ k) x xs absent))

-- when keys are distinct, one that goes by its index goes by its key
pub remove_is : {X : Type 0} (key : X → ℕ) (k : ℕ) (xs : List X) (i : ℕ) (d : X) → DistinctBy key xs → i < length xs → key (get_or xs i d) ≡ k → remove xs i ≡ filter (λ y. not (key y == k)) xs
remove_is key k [] i d distinct few is = absurd (omega arith)
remove_is key k (x ∷ xs) zero d distinct few is = grind (arith, nat_tests, is, filter-all key k xs (All-weaker (λ y. key y ≢ key x) (λ y. key y ≢ k) (λ y other same. other (same ∙ sym is)) xs distinct.0))
remove_is key k (x ∷ xs) (suc i) d distinct few is = grind (arith, (remove_is key k xs i d distinct.1 (omega arith) is), All-get_or, nat_tests)

pub filter_mapped : {X Y : Type 0} (f : X → Y) (p : Y → Bool) (xs : List X) → map f (filter (λ x. p (f x)) xs) ≡ filter p (map f xs)
filter_mapped f p [] = refl
filter_mapped f p (x ∷ xs) = grind (arith, filter_mapped f p xs)

-- what a test finds is found if only others go
pub find_kept : {X : Type 0} (q p : X → Bool) → ((x : X) → q x ≡ true → p x ≡ true) → (xs : List X) → find q (filter p xs) ≡ find q xs
find_kept q p keeps [] = refl
find_kept q p keeps (x ∷ xs) = grind (arith, keeps x, find_kept q p keeps xs)

pub any_kept : {X Y : Type 0} (f : X → Y) (q : Y → Bool) (p : X → Bool) (xs : List X) → All (λ x. q (f x) ≡ true → p x ≡ true) xs → list_any q (map f xs) ≡ true → list_any q (map f (filter p xs)) ≡ true
any_kept f q p [] keeps any = any
any_kept f q p (x ∷ xs) keeps any = grind (arith, any, All-head (λ x. q (f x) ≡ true → p x ≡ true) x xs keeps, any_kept f q p xs (All-tail (λ x. q (f x) ≡ true → p x ≡ true) x xs keeps))

-- an object ends before another begins
abbrev pub LiesBefore : ℕ × ObjectRow → ℕ × ObjectRow → Type 0
LiesBefore x y = page_behind x.1 ≤ page_of y.1

pub apart_pairs : (os : List (ℕ × ObjectRow)) → rows_apart (map (λ (o : ℕ × ObjectRow). o.1) os) ≡ true → AllPairs LiesBefore os
apart_pairs [] apart = AllPairs-nil LiesBefore
apart_pairs (o ∷ []) apart = AllPairs-cons LiesBefore o [] (All-nil (LiesBefore o)) (AllPairs-nil LiesBefore)
apart_pairs (o ∷ x ∷ os) apart =
    let parts = and_parts (nat_le (page_behind o.1) (page_of x.1)) (rows_apart (map (λ (o : ℕ × ObjectRow). o.1) (x ∷ os))) apart in
    let here = leb-true (page_behind o.1) (page_of x.1) parts.0 in
    let rest = apart_pairs (x ∷ os) parts.1 in
    AllPairs-cons LiesBefore o (x ∷ os) (All-cons (LiesBefore o) x os here (All-weaker (LiesBefore x) (LiesBefore o) (λ y more. omega arith) os (AllPairs-head LiesBefore x os rest))) rest

pub pairs_apart : (os : List (ℕ × ObjectRow)) → AllPairs LiesBefore os → rows_apart (map (λ (o : ℕ × ObjectRow). o.1) os) ≡ true
pairs_apart [] pairs = refl
pairs_apart (o ∷ []) pairs = refl
pairs_apart (o ∷ x ∷ os) pairs =
    and_from (nat_le (page_behind o.1) (page_of x.1)) (rows_apart (map (λ (o : ℕ × ObjectRow). o.1) (x ∷ os)))
    (le-leb (page_behind o.1) (page_of x.1) (All-head (LiesBefore o) x os (AllPairs-head LiesBefore o (x ∷ os) pairs)))
    (pairs_apart (x ∷ os) (AllPairs-tail LiesBefore o (x ∷ os) pairs))

pub bases_differ : (os : List (ℕ × ObjectRow)) → All (λ (y : ℕ × ObjectRow). IsObjectRow y.1) os → AllPairs LiesBefore os → DistinctBy (λ (y : ℕ × ObjectRow). y.1.base) os
bases_differ [] kept pairs = tt
bases_differ (o ∷ os) kept pairs =
    let row = All-head (λ (y : ℕ × ObjectRow). IsObjectRow y.1) o os kept in
    let some_pages = row.place.some in (
      All-weaker (LiesBefore o) (λ (y : ℕ × ObjectRow). y.1.base ≢ o.1.base) (λ y behind same. (let p : page_of y.1 ≡ page_of o.1 = ap (λ b. b / 4096) same in omega arith)) os (AllPairs-head LiesBefore o os pairs),
      bases_differ os (All-tail (λ (y : ℕ × ObjectRow). IsObjectRow y.1) o os kept) (AllPairs-tail LiesBefore o os pairs),
    )

-- each is this one, or lies apart from it
abbrev pub IsOrApart : ObjectRow → ObjectRow → Type 0
IsOrApart one row = (row ≡ one) ⊎ ((page_behind row ≤ page_of one) ⊎ (page_behind one ≤ page_of row))

pub others_apart : (os : List (ℕ × ObjectRow)) (i : ℕ) (d : ℕ × ObjectRow) → AllPairs LiesBefore os → i < length os → All (λ (y : ℕ × ObjectRow). IsOrApart (get_or os i d).1 y.1) os
others_apart os i d pairs few = λ k e within.
    let at : get_or os i e ≡ get_or os i d = get_or_default os i e d few in
    subst (λ (x : ℕ × ObjectRow). IsOrApart x.1 (get_or os k e).1) at
    (⊎_elim (λ (same : k ≡ i). inl (ap (λ j. (get_or os j e).1) same))
    (λ other.
    ⊎_elim (λ (before : k < i). inr (inl (pairs k i e before few))) (λ behind. inr (inr (pairs i k e (omega arith) within))) (cases_lt k i))
    (cases_eq k i))

-- What a list contains, what a search in it gives, and lists that rise.
use Rattle.mg_index.specs.ListLemmas.{Rises, contains-behind, contains-cases, contains-here, contains-none}
use Rattle.{mg_model.specs.KeptListLemmas.{AllPairs-head, AllPairs-tail}, std.proofs.Common.{refl, sym, ap, ◌∙◌, subst, ⊎_elim, arith, get_or}}
use Rattle.std.proofs.lemmas.{Bool.{both_ways, cases_Bool, cond_both}, List.{get_or-map, length-map, Elements.{All-contains, All-contains_itself}}}
use Rattle.std.{proofs.lemmas.List.Elements.{All-filter, Contains-get_or, filter_passes}, specs.{List.{Contains, list_any}, Prelude.{◌≡◌, ◌<◌, ℕ}}}
use Rattle.std.specs.Prelude.{All, Bool, true, false, List, [], ◌∷◌, Option, None, Some, filter, find, if◌then◌else◌, map}

pub all-from : {X : Type 0} (P : X → Type 0) (xs : List X) → ((x : X) → Contains xs x → P x) → All P xs
all-from P xs each k d under = each (get_or xs k d) (Contains-get_or xs k d under)

pub map-has : {X Y : Type 0} (f : X → Y) (xs : List X) (x : X) → Contains xs x → Contains (map f xs) (f x)
map-has f xs x there = (there.0, omega (arith, there.1, length-map xs f), get_or-map f xs there.0 x (f x) there.1 ∙ ap f there.2)

pub map-had : {X Y : Type 0} (f : X → Y) (xs : List X) (y : Y) → Contains (map f xs) y → (x : X) × Contains xs x × (f x ≡ y)
map-had f [] y there = absurd (contains-none y there)
map-had f (x ∷ xs) y there =
    ⊎_elim (λ here. (x, contains-here x xs, here))
    (λ behind. let old = map-had f xs y behind in (old.0, contains-behind x old.0 xs old.1, old.2)) (contains-cases (f x) y (map f xs) there)

pub filter-has : {X : Type 0} (p : X → Bool) (xs : List X) (x : X) → Contains xs x → p x ≡ true → Contains (filter p xs) x
filter-has p [] x there is = absurd (contains-none x there)
filter-has {X} p (z ∷ zs) x there is =
    cond_both (p z) (z ∷ filter p zs) (filter p zs) (λ (ys : List X). Contains ys x)
    (λ _. ⊎_elim (λ here. let P : X → Type 0 = Contains (z ∷ filter p zs) in subst P here (contains-here z (filter p zs))) (λ behind. contains-behind z x (filter p zs) (filter-has p zs x behind is)) (contains-cases z x zs there))
    (λ f. ⊎_elim (λ here. absurd (both_ways (p z) f (ap p here ∙ is))) (λ behind. filter-has p zs x behind is) (contains-cases z x zs there))

pub filter-had : {X : Type 0} (p : X → Bool) (xs : List X) (x : X) → Contains (filter p xs) x → Contains xs x × (p x ≡ true)
filter-had {X} p xs x there = (
  All-contains (Contains xs) (filter p xs) x (All-filter p (Contains xs) xs (All-contains_itself xs)) there,
  All-contains (λ (y : X). p y ≡ true) (filter p xs) x (filter_passes p xs) there,
)

-- the one element that passes a test
pub find-only : {X : Type 0} (p : X → Bool) (xs : List X) (x : X) → Contains xs x → p x ≡ true → ((y : X) → Contains xs y → p y ≡ true → y ≡ x) → find p xs ≡ Some x
find-only p [] x there is only = absurd (contains-none x there)
find-only {X} p (z ∷ zs) x there is only =
    cond_both (p z) (Some z) (find p zs) (λ (found : Option X). found ≡ Some x) (λ t. ap Some (only z (contains-here z zs) t))
    (λ f. find-only p zs x (⊎_elim (λ here. absurd (both_ways (p z) f (ap p here ∙ is))) (λ behind. behind) (contains-cases z x zs there)) is (λ y at t. only y (contains-behind z y zs at) t))

pub find-none : {X : Type 0} (p : X → Bool) (xs : List X) → ((y : X) → Contains xs y → p y ≡ false) → find p xs ≡ None
find-none p [] none = refl
find-none p (z ∷ zs) none = rw (none z (contains-here z zs)) (find-none p zs (λ y at. none y (contains-behind z y zs at)))

pub find-any : {X : Type 0} (p : X → Bool) (xs : List X) → None ≡ find p xs → list_any p xs ≡ true → ⊥
find-any p [] none any = absurd (cc)
find-any {X} p (z ∷ zs) none any = ⊎_elim (λ t. let e : None ≡ Some z = rw t at none in absurd (cc)) (λ f. find-any p zs (rw f at none) (rw f at any)) (cases_Bool (p z))

pub find-had : {X : Type 0} (p : X → Bool) (xs : List X) (x : X) → find p xs ≡ Some x → Contains xs x × (p x ≡ true)
find-had p [] x is = absurd (cc)
find-had {X} p (z ∷ zs) x is =
    cond_both (p z) (Some z) (find p zs) (λ (found : Option X). found ≡ Some x → Contains (z ∷ zs) x × (p x ≡ true))
    (λ t here. let same : z ≡ x = cc in ((0, omega arith, same), sym (ap p same) ∙ t)) (λ _ behind. let old = find-had p zs x behind in (contains-behind z x zs old.0, old.1)) is

-- two that rise and contain the same are one
above-first : {X : Type 0} (key : X → ℕ) (x y : X) (xs : List X) → Rises key (x ∷ xs) → Contains xs y → key x < key y
above-first {X} key x y xs up there = All-contains (λ (b : X). key x < key b) xs y (AllPairs-head (λ (a b : X). key a < key b) x xs up) there

rest-has : {X : Type 0} (key : X → ℕ) (x y : X) (xs ys : List X) → Rises key (x ∷ xs) → x ≡ y → ((z : X) → Contains (x ∷ xs) z → Contains (y ∷ ys) z) → (z : X) → Contains xs z → Contains ys z
rest-has key x y xs ys up same to z there =
    ⊎_elim (λ is. absurd (let e = ap key (same ∙ is) in omega (arith, above-first key x z xs up there))) (λ behind. behind)
    (contains-cases y z ys (to z (contains-behind x z xs there)))

pub same-rising : {X : Type 0} (key : X → ℕ) (xs ys : List X) → Rises key xs → Rises key ys → ((x : X) → Contains xs x → Contains ys x) → ((x : X) → Contains ys x → Contains xs x) → xs ≡ ys
same-rising key [] [] up_x up_y to from = refl
same-rising key [] (y ∷ ys) up_x up_y to from = absurd (contains-none y (from y (contains-here y ys)))
same-rising key (x ∷ xs) [] up_x up_y to from = absurd (contains-none x (to x (contains-here x xs)))
same-rising {X} key (x ∷ xs) (y ∷ ys) up_x up_y to from =
    ap (λ z. z ∷ xs) first
    ∙ ap (λ zs. y ∷ zs) (same-rising key xs ys (AllPairs-tail (λ (a b : X). key a < key b) x xs up_x) (AllPairs-tail (λ (a b : X). key a < key b) y ys up_y)
    (rest-has key x y xs ys up_x first to) (rest-has key y x ys xs up_y (sym first) from))
  where
    first : x ≡ y
    first =
        ⊎_elim (λ is. sym is)
        (λ behind. ⊎_elim (λ is. is) (λ later. absurd (omega (arith, above-first key x y xs up_x later, above-first key y x ys up_y behind))) (contains-cases x y xs (from y (contains-here y ys))))
        (contains-cases y x ys (to x (contains-here x xs)))

-- what a test chose
pub some_of : {X : Type 0} (t : Bool) (x y : X) → Some x ≡ (if t then Some y else None) → x ≡ y
some_of true x y is = cc
some_of false x y is = cc

pub none_of : {X : Type 0} (t : Bool) (y : X) → None ≡ (if t then Some y else None) → t ≡ false
none_of true y is = cc
none_of false y is = refl

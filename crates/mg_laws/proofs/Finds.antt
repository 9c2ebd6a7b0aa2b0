-- What a search through a list finds, and what it finds after a change of the list.
use Rattle.{mg_model.specs.KeptListLemmas.{AllPairs-head, AllPairs-tail}, std.proofs.Common.{ℕ, zero, suc, ◌<◌, ◌≡◌, ◌≢◌, Bool, true, false, cond}}
use Rattle.std.proofs.Common.{eqb, List, [], ◌∷◌, get_or, length, map, filter, Some, None, refl, sym, ap, ◌∙◌, arith, All, AllPairs, Contains}
use Rattle.std.proofs.lemmas.{Bool.{cond_both, cond-false, cond-true, eq-eqb, false≢true, ne_eqb}, List.Elements.{All-head, All-tail}}
use Rattle.std.{proofs.lemmas.Option.same_Some, specs.{Option.option_map_or, Prelude.{find, option_map}}}

-- what is found is an element, and passes
pub record IsHit {X : Type 0} (test : X → Bool) (xs : List X) (x : X) : Type 0 where
  pub among : Contains xs x
  pub passes : test x ≡ true

pub find-hit : {X : Type 0} (test : X → Bool) (xs : List X) (x : X) → find test xs ≡ Some x → IsHit test xs x
find-hit test [] x is = absurd (cc)
find-hit test (y ∷ xs) x is =
    cond_both (test y) (Some y) (find test xs) (λ o. o ≡ Some x → IsHit test (y ∷ xs) x)
    (λ passes there. let same : y ≡ x = same_Some y x there in record { among = (0, omega arith, same); passes = ap test (sym same) ∙ passes })
    (λ _ later. let hit = find-hit test xs x later in record { among = (suc hit.among.0, (let within = hit.among.1 in omega arith), hit.among.2); passes = hit.passes })
    is

-- nothing is found if no element passes
pub find-none : {X : Type 0} (test : X → Bool) (xs : List X) → All (λ x. test x ≡ false) xs → find test xs ≡ None
find-none test [] all = refl
find-none test (x ∷ xs) all = cond-false _ _ _ (All-head (λ y. test y ≡ false) x xs all) ∙ find-none test xs (All-tail (λ y. test y ≡ false) x xs all)

-- if each element has a key of its own, the element at a place is found by its key
pub find_by_key : {X : Type 0} (key : X → ℕ) (xs : List X) (k : ℕ) (d : X) → AllPairs (λ x y. key x ≢ key y) xs → k < length xs → find (λ x. eqb (key x) (key (get_or xs k d))) xs ≡ Some (get_or xs k d)
find_by_key key [] k d apart within = absurd (omega arith)
find_by_key key (x ∷ xs) zero d apart within = cond-true _ _ _ (eq-eqb (key x) (key x) refl)
find_by_key key (x ∷ xs) (suc k) d apart within =
    let inside : k < length xs = omega arith in
    cond-false _ _ _ (ne_eqb _ _ (AllPairs-head (λ y z. key y ≢ key z) x xs apart k d inside))
    ∙ find_by_key key xs k d (AllPairs-tail (λ y z. key y ≢ key z) x xs apart) inside

-- a change of each element that the test does not see
pub find-map : {X : Type 0} (test : X → Bool) (f : X → X) → ((x : X) → test (f x) ≡ test x) → (xs : List X) → find test (map f xs) ≡ option_map f (find test xs)
find-map test f same [] = refl
find-map test f same (x ∷ xs) = grind (arith, (find-map test f same xs))

-- a filter that keeps what passes
pub find-filter : {X : Type 0} (test kept : X → Bool) → ((x : X) → test x ≡ true → kept x ≡ true) → (xs : List X) → find test (filter kept xs) ≡ find test xs
find-filter test kept keeps [] = refl
find-filter test kept keeps (x ∷ xs) =
    let rest = find-filter test kept keeps xs in
    cond_both (kept x) (x ∷ filter kept xs) (filter kept xs) (λ ys. find test ys ≡ find test (x ∷ xs))
    (λ _. ap (λ o. cond (test x) (Some x) o) rest)
    (λ goes. rest ∙ sym (cond-false (test x) (Some x) (find test xs) (fails (test x) refl goes)))
  where
    fails : (v : Bool) → test x ≡ v → kept x ≡ false → v ≡ false
    fails true passes goes = absurd (false≢true (sym goes ∙ keeps x passes))
    fails false passes goes = refl

-- What is read from the element that is found, if a change of each element leaves it.
pub read-map : {X Y : Type 0} (test : X → Bool) (f : X → X) (g : X → Y) (d : Y) (xs : List X) → ((x : X) → test (f x) ≡ test x) → ((x : X) → test x ≡ true → g (f x) ≡ g x) → option_map_or g (find test (map f xs)) d ≡ option_map_or g (find test xs) d
read-map test f g d xs same leaves = grind (arith, find-map, find-hit)

-- a test on that element that still passes
pub pass-map : {X : Type 0} (test : X → Bool) (f : X → X) (g h : X → Bool) (xs : List X) → ((x : X) → test (f x) ≡ test x) → ((x : X) → test x ≡ true → g x ≡ true → h (f x) ≡ true) → option_map_or g (find test xs) false ≡ true → option_map_or h (find test (map f xs)) false ≡ true
pass-map test f g h xs same stays passes = grind (arith, find-map, find-hit)

-- What a list contains, and lists in order.
use Rattle.std.proofs.{Common.{refl, sym, ap, ◌∙◌, inl, inr, subst, ⊎_elim, arith, get_or}, lemmas.Bool.cases_lt}
use Rattle.std.{proofs.lemmas.{Bool.cases_order, List.get_or_default}, specs.List.{AllPairs, Contains}}
use Rattle.std.specs.{List.Sorted.IsNonDecreasingBy, Prelude.{◌≡◌, ◌<◌, ◌⊎◌, ℕ, zero, suc, List, [], ◌∷◌, map}}
use Rattle.std.specs.Prelude.{slice_index}

pub contains-here : {X : Type 0} (x : X) (xs : List X) → Contains (x ∷ xs) x
contains-here x xs = (0, omega arith, refl)

pub contains-behind : {X : Type 0} (y x : X) (xs : List X) → Contains xs x → Contains (y ∷ xs) x
contains-behind y x xs there = (suc there.0, omega (arith, there.1), there.2)

pub contains-cases : {X : Type 0} (y x : X) (xs : List X) → Contains (y ∷ xs) x → (y ≡ x) ⊎ Contains xs x
contains-cases y x xs (zero, under, is) = inl is
contains-cases y x xs (suc k, under, is) = inr (k, omega arith, is)

pub contains-none : {X : Type 0} (x : X) → Contains [] x → ⊥
contains-none x there = absurd (omega (arith, there.1))

-- two elements of a list in order are one, or in order one way or the other
pub pair-cases : {X : Type 0} (R : X → X → Type 0) (xs : List X) (x y : X) → AllPairs R xs → Contains xs x → Contains xs y → (x ≡ y) ⊎ (R x y ⊎ R y x)
pair-cases {X} R xs x y each at_x at_y =
    ⊎_elim (λ e. inl (sym at_x.2 ∙ get_or_default xs at_x.0 x y at_x.1 ∙ ap (λ k. get_or xs k y) e ∙ at_y.2))
    (λ other. inr (⊎_elim (λ l. inl (go x y at_x at_y l)) (λ l. inr (go y x at_y at_x l)) other)) (cases_order at_x.0 at_y.0)
  where
    go : (u v : X) (a : Contains xs u) (b : Contains xs v) → a.0 < b.0 → R u v
    go u v a b before =
        let P : X → Type 0 = R u in
        let Q : X → Type 0 = λ w. R w (get_or xs b.0 u) in
        subst P (get_or_default xs b.0 u v b.1 ∙ b.2) (subst Q a.2 (each a.0 b.0 u before b.1))

-- a list in which a number rises
abbrev pub Rises : {X : Type 0} → (X → ℕ) → List X → Type 0
Rises {X} key xs = AllPairs (λ (a b : X). key a < key b) xs

-- no two of its elements have one number
pub rises-once : {X : Type 0} (key : X → ℕ) (xs : List X) (x y : X) → Rises key xs → Contains xs x → Contains xs y → key x ≡ key y → x ≡ y
rises-once {X} key xs x y up at_x at_y same =
    ⊎_elim (λ e. e) (λ other. absurd (⊎_elim (λ l. omega arith) (λ l. omega arith) other)) (pair-cases (λ (a b : X). key a < key b) xs x y up at_x at_y)

pub no-falls : {X : Type 0} (key : X → ℕ) (xs : List X) → Rises key xs → IsNonDecreasingBy key xs
no-falls key xs up i j d order under =
    ⊎_elim (λ before. let l = up i j d before under in omega arith) (λ le. let e : i ≡ j = omega arith in let same = ap (λ n. key (get_or xs n d)) e in omega arith) (cases_lt i j)

-- what an image of each number has in a place
pub map-at : (f : ℕ → ℕ) → f 0 ≡ 0 → (xs : List ℕ) (k : ℕ) → slice_index (map f xs) k ≡ f (slice_index xs k)
map-at f stays [] k = sym stays
map-at f stays (x ∷ xs) zero = refl
map-at f stays (x ∷ xs) (suc k) = map-at f stays xs k

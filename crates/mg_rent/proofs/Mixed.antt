-- A list of which the first elements are those of another, as long.
use Rattle.std.proofs.Common.{◌≡◌, ℕ, zero, suc, ◌<◌, List, [], ◌∷◌, ◌++◌, length, get_or, set, take, drop, refl, ap, arith}

abbrev pub mixed : {X : Type 0} → List X → List X → ℕ → List X
mixed xs ys i = take i xs ++ drop i ys

pub length-mixed : {X : Type 0} (xs ys : List X) (i : ℕ) → length xs ≡ length ys → length (mixed xs ys i) ≡ length ys
length-mixed xs ys zero same = refl
length-mixed [] [] (suc i) same = refl
length-mixed [] (y ∷ ys) (suc i) same = absurd (omega arith)
length-mixed (x ∷ xs) [] (suc i) same = absurd (omega arith)
length-mixed (x ∷ xs) (y ∷ ys) (suc i) same = ap suc (length-mixed xs ys i (omega arith))

pub mixed-at : {X : Type 0} (xs ys : List X) (i : ℕ) (d : X) → length xs ≡ length ys → i < length ys → get_or (mixed xs ys i) i d ≡ get_or ys i d
mixed-at xs ys zero d same within = refl
mixed-at [] [] (suc i) d same within = absurd (omega arith)
mixed-at [] (y ∷ ys) (suc i) d same within = absurd (omega arith)
mixed-at (x ∷ xs) [] (suc i) d same within = absurd (omega arith)
mixed-at (x ∷ xs) (y ∷ ys) (suc i) d same within = mixed-at xs ys i d (omega arith) (omega arith)

pub mixed-set : {X : Type 0} (xs ys : List X) (i : ℕ) (d : X) → length xs ≡ length ys → i < length ys → set (mixed xs ys i) i (get_or xs i d) ≡ mixed xs ys (suc i)
mixed-set [] [] i d same within = absurd (omega arith)
mixed-set [] (y ∷ ys) i d same within = absurd (omega arith)
mixed-set (x ∷ xs) [] i d same within = absurd (omega arith)
mixed-set (x ∷ xs) (y ∷ ys) zero d same within = refl
mixed-set (x ∷ xs) (y ∷ ys) (suc i) d same within = ap (λ (zs : List _). x ∷ zs) (mixed-set xs ys i d (omega arith) (omega arith))

pub mixed-all : {X : Type 0} (xs ys : List X) → length xs ≡ length ys → mixed xs ys (length ys) ≡ xs
mixed-all [] [] same = refl
mixed-all [] (y ∷ ys) same = absurd (omega arith)
mixed-all (x ∷ xs) [] same = absurd (omega arith)
mixed-all (x ∷ xs) (y ∷ ys) same = ap (λ (zs : List _). x ∷ zs) (mixed-all xs ys (omega arith))

-- Lemmas on the pages that an account pays for.
use Rattle.std.proofs.Common.{◌≡◌, ℕ, ◌==◌, Bool, true, false, cond, List, [], ◌∷◌, filter, map, sum_by, refl, arith}
use Rattle.std.proofs.lemmas.List.Sums.{sum_by-cons}
use Rattle.mg_model.specs.State.{ObjectRow}

-- the pages that an account pays for among rows
abbrev pub row_pages : List ObjectRow → ℕ → ℕ
row_pages rows number = sum_by (λ (row : ObjectRow). row.pages) (filter (λ (row : ObjectRow). row.account == number) rows)

-- are those of what has such rows: of objects, and of rows with their places
pub paid-through : {X : Type 0} (f : X → ObjectRow) (xs : List X) (number : ℕ) → sum_by (λ x. (f x).pages) (filter (λ x. (f x).account == number) xs) ≡ row_pages (map f xs) number
paid-through f [] number = refl
paid-through f (x ∷ xs) number = at ((f x).account == number) (paid-through f xs number)
  where
    at : (b : Bool) → sum_by (λ y. (f y).pages) (filter (λ y. (f y).account == number) xs) ≡ row_pages (map f xs) number
        → sum_by (λ y. (f y).pages) (cond b (x ∷ filter (λ y. (f y).account == number) xs) (filter (λ y. (f y).account == number) xs)) ≡ sum_by (λ (row : ObjectRow). row.pages) (cond b (f x ∷ filter (λ (row : ObjectRow). row.account == number) (map f xs)) (filter (λ (row : ObjectRow). row.account == number) (map f xs)))
    at true more = omega (arith, more, sum_by-cons (λ y. (f y).pages) x (filter (λ y. (f y).account == number) xs), sum_by-cons (λ (row : ObjectRow). row.pages) (f x) (filter (λ (row : ObjectRow). row.account == number) (map f xs)))
    at false more = more

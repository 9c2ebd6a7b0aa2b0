-- Where pages are in the frame table once one is bound.
use Rattle.{mg_frames.specs.Places.{position-here, position-there}, std.proofs.Common.{refl, ap, ◌∙◌, ⊎_elim, inl, inr, arith, get_or}}
use Rattle.std.proofs.lemmas.{Bool.{eq-eqb, eqb-true, or_cases, or_left, or_parts, or_right}, List.{length-set, Folds.position_or_len-set}}
use Rattle.std.{proofs.lemmas.List.Quantifiers.position-Some, specs.{List.{list_any, position}, Prelude.{◌≡◌, ◌⊎◌, ◌<◌, ◌==◌, ℕ, zero, suc, Bool}}}
use Rattle.std.specs.Prelude.{true, false, List, [], ◌∷◌, length, option_map, slice_set, Some}

pub position-set : {X : Type 0} (p : X → Bool) (xs : List X) (i : ℕ) (y d : X) → p y ≡ p (get_or xs i d) → position p (slice_set xs i y) ≡ position p xs
position-set p xs i y d same = rw (position_or_len-set p xs i y d same, length-set xs i y) refl

-- a page that is bound now
pub position-bound : (xs : List ℕ) (f page : ℕ) → f < length xs → list_any (λ entry. entry == page) xs ≡ false → position (λ entry. entry == page) (slice_set xs f page) ≡ Some f
position-bound [] f page below none = absurd (omega arith)
position-bound (x ∷ xs) zero page below none = position-here (λ entry. entry == page) page xs (eq-eqb page page refl)
position-bound (x ∷ xs) (suc f) page below none =
    let parts = or_parts (x == page) (list_any (λ entry. entry == page) xs) none in
    position-there (λ entry. entry == page) x (slice_set xs f page) parts.0 ∙ ap (option_map suc) (position-bound xs f page (omega arith) parts.1)

pub any-set : {X : Type 0} (p : X → Bool) (xs : List X) (i : ℕ) (y : X) → list_any p (slice_set xs i y) ≡ true → (p y ≡ true) ⊎ (list_any p xs ≡ true)
any-set p [] i y is = inr is
any-set p (x ∷ xs) zero y is = ⊎_elim (λ here. inl here) (λ there. inr (or_right (p x) (list_any p xs) there)) (or_cases (p y) (list_any p xs) is)
any-set p (x ∷ xs) (suc i) y is =
    ⊎_elim (λ here. inr (or_left (p x) (list_any p xs) here))
    (λ there. ⊎_elim (λ new. inl new) (λ old. inr (or_right (p x) (list_any p xs) old)) (any-set p xs i y there)) (or_cases (p x) (list_any p (slice_set xs i y)) is)

-- the frame that a search gives
pub place-of : (xs : List ℕ) (page f : ℕ) → position (λ entry. entry == page) xs ≡ Some f → (f < length xs) × (get_or xs f 0 ≡ page)
place-of xs page f is = grind (arith, position-Some, eqb-true)

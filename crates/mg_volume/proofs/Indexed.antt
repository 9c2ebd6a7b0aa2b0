-- An object by its index.
use Rattle.std.{proofs.{Common.{sym, ap, get_or, ◌∙◌, ⊎_elim, arith}, lemmas.Bool.cases_Bool}, specs.Prelude.{◌≡◌, ◌<◌, ℕ, suc, Bool, true, false}}
use Rattle.std.specs.Prelude.{List, [], ◌∷◌, find, if◌then◌else◌, length, Some}

-- what a search gives is at an index, and passes
pub found_index : {X : Type 0} (p : X → Bool) (xs : List X) (x : X) → find p xs ≡ Some x → (i : ℕ) × (i < length xs) × ((d : X) → get_or xs i d ≡ x) × (p x ≡ true)
found_index p [] x is = cc
found_index {X} p (y ∷ ys) x is = ⊎_elim here (there (found_index p ys x)) (cases_Bool (p y))
  where
    here : p y ≡ true → (i : ℕ) × (i < length (y ∷ ys)) × ((d : X) → get_or (y ∷ ys) i d ≡ x) × (p x ≡ true)
    here t = grind arith

    there : (find p ys ≡ Some x → (i : ℕ) × (i < length ys) × ((d : X) → get_or ys i d ≡ x) × (p x ≡ true)) → p y ≡ false → (i : ℕ) × (i < length (y ∷ ys)) × ((d : X) → get_or (y ∷ ys) i d ≡ x) × (p x ≡ true)
    there again f =
        let rest = again (sym (ap (λ b. if b then Some y else find p ys) f) ∙ is) in
        let few = rest.1 in
        (suc rest.0, omega arith, λ d. rest.2 d, rest.3)

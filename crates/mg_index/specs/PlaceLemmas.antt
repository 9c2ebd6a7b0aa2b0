-- Where a number is in a table.
use Rattle.std.proofs.{Common.{refl, sym, ap, ◌∙◌, inl, inr, arith}, lemmas.Bool.{cases_lt, le-ltb, lt-ltb}}
use Rattle.std.specs.{List.{list_any, position, position_or_len}, Prelude.{◌≡◌, ◌+◌, ℕ, suc, Bool, true, false, cond}}
use Rattle.std.specs.Prelude.{List, [], ◌∷◌, length, nat_lt, Option, Some, None, option_map}

-- the place in a list follows from the first entry and the place in the rest
pub position-here : {X : Type 0} (p : X → Bool) (x : X) (xs : List X) → p x ≡ true → position p (x ∷ xs) ≡ Some 0
position-here p x xs is =
    let t : nat_lt 0 (suc (length xs)) ≡ true = lt-ltb 0 (suc (length xs)) (omega arith) in
    let shown : position p (x ∷ xs) ≡ cond (nat_lt 0 (suc (length xs))) (Some 0) None = rw is refl in
    rw t at shown

pub position-there : {X : Type 0} (p : X → Bool) (x : X) (xs : List X) → p x ≡ false → position p (x ∷ xs) ≡ option_map suc (position p xs)
position-there p x xs is =
    let n = position_or_len p xs in
    let shown : position p (x ∷ xs) ≡ cond (nat_lt (1 + n) (suc (length xs))) (Some (1 + n)) None = rw is refl in
    elim (cases_lt n (length xs)) [
      | inl under ↦
          let t : nat_lt (1 + n) (suc (length xs)) ≡ true = lt-ltb (1 + n) (suc (length xs)) (omega arith) in
          let u : nat_lt n (length xs) ≡ true = lt-ltb n (length xs) under in
          let rest : position p xs ≡ Some n = rw u refl in
          let whole : position p (x ∷ xs) ≡ Some (1 + n) = rw t at shown in
          let one : 1 + n ≡ suc n = omega arith in
          whole ∙ ap Some one ∙ sym (ap (option_map suc) rest)
      | inr over ↦
          let t : nat_lt (1 + n) (suc (length xs)) ≡ false = le-ltb (1 + n) (suc (length xs)) (omega arith) in
          let u : nat_lt n (length xs) ≡ false = le-ltb n (length xs) over in
          let rest : position p xs ≡ None = rw u refl in
          let whole : position p (x ∷ xs) ≡ None = rw t at shown in
          whole ∙ sym (ap (option_map suc) rest)
    ]

-- a place, and whether there is one
none-suc : (o : Option ℕ) → o ≡ None → option_map suc o ≡ None
none-suc o is = ap (option_map suc) is

pub nowhere : {X : Type 0} (p : X → Bool) (xs : List X) → list_any p xs ≡ false → position p xs ≡ None
nowhere p [] none = refl
nowhere p (x ∷ xs) none = go (nowhere p xs) (p x) refl
  where
    go : (list_any p xs ≡ false → position p xs ≡ None) → (t : Bool) → p x ≡ t → position p (x ∷ xs) ≡ None
    go again true e = let bad : list_any p (x ∷ xs) ≡ true = rw e refl in let no : true ≡ false = sym bad ∙ none in cc
    go again false e = let rest : list_any p (x ∷ xs) ≡ list_any p xs = rw e refl in position-there p x xs e ∙ none-suc (position p xs) (again (sym rest ∙ none))

some_none : (n : ℕ) → Some n ≡ None → ⊥
some_none n is = cc

pub nowhere_any : {X : Type 0} (p : X → Bool) (xs : List X) → position p xs ≡ None → list_any p xs ≡ false
nowhere_any p [] none = refl
nowhere_any p (x ∷ xs) none = go (nowhere_any p xs) (p x) refl
  where
    some_suc : (o : Option ℕ) → option_map suc o ≡ None → o ≡ None
    some_suc None is = refl
    some_suc (Some n) is = cc

    go : (position p xs ≡ None → list_any p xs ≡ false) → (t : Bool) → p x ≡ t → list_any p (x ∷ xs) ≡ false
    go again true e = absurd (some_none 0 (sym (position-here p x xs e) ∙ none))
    go again false e =
        let rest : list_any p (x ∷ xs) ≡ list_any p xs = rw e refl in
        rest ∙ again (some_suc (position p xs) (sym (position-there p x xs e) ∙ none))

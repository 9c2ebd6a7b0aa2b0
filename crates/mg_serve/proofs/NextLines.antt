-- Where the first of the bytes that pass a test is.
use Rattle.{mg_model.specs.Words.is_newline, std.proofs.{Common.{refl, sym, ap, subst, ◌∙◌, arith, cond}, lemmas.{Bool.eqb-true, List.take_all}}}
use Rattle.std.specs.{List.{list_any, prefix_len}, Prelude.{ℕ, ◌+◌, ◌<◌, ◌≤◌, ◌≡◌, Bool, true, false, List, [], ◌∷◌, ◌++◌, drop, length, not, take}}

-- a byte that is no newline, and one that is
pub stays : (v : Bool) → (v ≡ true → ⊥) → not v ≡ true
stays true h = absurd (h refl)
stays false h = refl

pub fails : (v : Bool) → v ≡ true → not v ≡ false
fails true is = refl
fails false is = cc

module _ (cuts : ℕ → Bool) where
  -- how many bytes are before it
  abbrev pub before : List ℕ → ℕ
  before xs = prefix_len (λ b. not (cuts b)) xs

  -- none of these passes
  pub front-whole : (xs : List ℕ) → list_any cuts (take (before xs) xs) ≡ false
  front-whole [] = refl
  front-whole (x ∷ xs) = by_cut (cuts x) refl (front-whole xs)
    where
      by_cut : (v : Bool) → cuts x ≡ v → list_any cuts (take (before xs) xs) ≡ false → list_any cuts (take (cond (not v) (1 + before xs) 0) (x ∷ xs)) ≡ false
      by_cut true is others = refl
      by_cut false is others = grind arith

  -- the bytes are these, the one, and those after it
  pub front-split : (xs : List ℕ) → before xs < length xs → (d : ℕ) × (cuts d ≡ true) × (xs ≡ (take (before xs) xs ++ d ∷ []) ++ drop (before xs + 1) xs)
  front-split [] few = absurd (omega arith)
  front-split (x ∷ xs) few = by_cut (cuts x) refl few (front-split xs)
    where
      by_cut : (v : Bool) → cuts x ≡ v → cond (not v) (1 + before xs) 0 < length (x ∷ xs)
          → (before xs < length xs → (d : ℕ) × (cuts d ≡ true) × (xs ≡ (take (before xs) xs ++ d ∷ []) ++ drop (before xs + 1) xs))
          → (d : ℕ) × (cuts d ≡ true) × (x ∷ xs ≡ (take (cond (not v) (1 + before xs) 0) (x ∷ xs) ++ d ∷ []) ++ drop (cond (not v) (1 + before xs) 0 + 1) (x ∷ xs))
      by_cut true is within others = (x, is, refl)
      by_cut false is within others = grind arith

  -- when all are before it, there is none
  pub front-all : (xs : List ℕ) → length xs ≤ before xs → list_any cuts xs ≡ false
  front-all xs all = ap (list_any cuts) (sym (take_all (before xs) xs all)) ∙ front-whole xs

-- the bytes before a newline, and those after it
pub newline-split : (xs : List ℕ) (n : ℕ) → n ≡ before is_newline xs → n < length xs → xs ≡ (take n xs ++ 10 ∷ []) ++ drop (n + 1) xs
newline-split xs n is within = grind (arith, front-split, eqb-true)

pub newline-before : (xs : List ℕ) (n : ℕ) → n ≡ before is_newline xs → list_any is_newline (take n xs) ≡ false
newline-before xs n is = ap (λ k. list_any is_newline (take k xs)) is ∙ front-whole is_newline xs

pub newline-none : (xs : List ℕ) (n : ℕ) → n ≡ before is_newline xs → length xs ≤ n → list_any is_newline xs ≡ false
newline-none xs n is all = front-all is_newline xs (subst (λ k. length xs ≤ k) is all)

-- Lists that are made of parts, and the place where one part ends.
use Rattle.{mg_ranges.specs.Kept.Ascends, std.proofs.Common.{refl, sym, ap, ◌∙◌, subst, ⊎_elim, arith, append_assoc, length-append}}
use Rattle.std.proofs.lemmas.{Bool.cases_lt, List.{drop_at, get_or-append_right, get_or_append_left, length-drop, length-take-le, take_at}}
use Rattle.std.specs.{List.{AllWithin, remove, Sorted.IsNonDecreasingBy}, Prelude.{◌≡◌, ◌+◌, ◌-◌, ◌<◌, ◌≤◌, ℕ, suc, List, [], ◌++◌, ◌∷◌, All, drop}}
use Rattle.std.specs.Prelude.{length, take}

-- an element between two parts
pub drop-past : {X : Type 0} (xs : List X) (x : X) (ys : List X) → drop (suc (length xs)) (xs ++ x ∷ ys) ≡ ys
drop-past [] x ys = refl
drop-past (y ∷ xs) x ys = drop-past xs x ys

pub remove-at : {X : Type 0} (xs : List X) (x : X) (ys : List X) (i : ℕ) → length xs ≡ i → remove (xs ++ x ∷ ys) i ≡ xs ++ ys
remove-at xs x ys i is = grind (arith, take_at, drop-past)

-- a part added between two others
pub put-at : {X : Type 0} (xs ys zs : List X) (i : ℕ) → length xs ≡ i → (take i (xs ++ zs) ++ ys) ++ drop i (xs ++ zs) ≡ xs ++ (ys ++ zs)
put-at xs ys zs i is = ap (λ p. (p ++ ys) ++ drop i (xs ++ zs)) (take_at xs zs i is) ∙ ap (λ q. (xs ++ ys) ++ q) (drop_at xs zs i is) ∙ append_assoc xs ys zs

-- where one part ends, by a number that is at most this in the first and above it in the second
module _ {X : Type 0} (f : X → ℕ) (v : ℕ) (xs ys : List X) (i : ℕ) (low : All (λ x. f x ≤ v) xs) (high : All (λ x. v < f x) ys) (within : i ≤ length (xs ++ ys)) (below : AllWithin (λ x. f x ≤ v) (xs ++ ys) 0 i) (above : AllWithin (λ x. v < f x) (xs ++ ys) i (length (xs ++ ys))) where
  long : length (xs ++ ys) ≡ length xs + length ys
  long = length-append xs ys

  not_early : X → i < length xs → length xs ≡ i
  not_early d early =
      let a = above i d (omega arith) (omega (arith, long)) in
      let e = ap f (get_or_append_left xs ys d i early) in
      let l = low i d early in
      absurd (omega arith)

  not_late : X → length xs < i → length xs ≡ i
  not_late d late =
      let b = below (length xs) d (omega arith) late in
      let e = ap f (get_or-append_right xs ys (length xs) (length xs) d refl (omega arith)) in
      let h = high (length xs - length xs) d (omega (arith, long)) in
      absurd (omega arith)

  pub part-end : X → length xs ≡ i
  part-end d = ⊎_elim (not_early d) (λ le. ⊎_elim (not_late d) (λ ge. omega arith) (cases_lt (length xs) i)) (cases_lt i (length xs))

-- what rises does not fall
pub no-falls : (gaps : List (ℕ × ℕ)) → Ascends gaps → IsNonDecreasingBy (λ (gap : ℕ × ℕ). gap.0) gaps
no-falls gaps up i j d order under = grind (arith, cases_lt)

-- the same of a list that is known to be both parts
pub part-ends :
    {X : Type 0} (f : X → ℕ) (v : ℕ) (xs ys zs : List X) (i : ℕ) → zs ≡ xs ++ ys → All (λ x. f x ≤ v) xs → All (λ x. v < f x) ys → i ≤ length zs → AllWithin (λ x. f x ≤ v) zs 0 i → AllWithin (λ x. v < f x) zs i (length zs)
    → X → length xs ≡ i
part-ends {X} f v xs ys zs i is low high =
    let P : List X → Type 0 = λ l. i ≤ length l → AllWithin (λ x. f x ≤ v) l 0 i → AllWithin (λ x. v < f x) l i (length l) → X → length xs ≡ i in
    subst P (sym is) (part-end f v xs ys i low high)

-- one element less
pub length-removed : {X : Type 0} (xs : List X) (i : ℕ) → i < length xs → length (remove xs i) + 1 ≡ length xs
length-removed xs i under = grind (arith, length-append, length-take-le, length-drop)

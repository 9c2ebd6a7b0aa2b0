-- The objects that rows spell are as many, and have as many pages.
use Rattle.std.proofs.{Common.{refl, sym, ap, ◌∙◌, subst, ⊎_elim}, lemmas.{Bool.cases_Bool, List.length-map}}
use Rattle.std.proofs.lemmas.List.Sorted.{IsPermutation-cons, IsPermutation-middle, IsPermutation-refl}
use Rattle.std.proofs.lemmas.List.Sorted.{IsPermutation-sym, IsPermutation-trans, length_permutation}
use Rattle.std.{proofs.lemmas.List.{Sorted.sum_by-IsPermutation, Sums.sum_by-cons}, specs.List.Sorted.IsPermutation}
use Rattle.std.specs.Prelude.{◌≡◌, ℕ, ◌+◌, nat_lt, Bool, true, false, List, [], ◌∷◌, if◌then◌else◌, length, map, sum_by}
use Rattle.mg_model.specs.{Bank.used, Objects.with_object, State.{Object, ObjectRow}, Volume.object_spelled}
use Rattle.mg_model.specs.Volume.{objects_spelled}

inserted : (new : Object) (objects : List Object) → IsPermutation (new ∷ objects) (with_object new objects)
inserted new [] = IsPermutation-refl (new ∷ [])
inserted new (object ∷ objects) = ⊎_elim first (later (inserted new objects)) (cases_Bool (nat_lt new.row.base object.row.base))
  where
    first : nat_lt new.row.base object.row.base ≡ true → IsPermutation (new ∷ object ∷ objects) (with_object new (object ∷ objects))
    first t = subst (λ (b : Bool). IsPermutation (new ∷ object ∷ objects) (if b then new ∷ object ∷ objects else object ∷ with_object new objects)) (sym t) (IsPermutation-refl (new ∷ object ∷ objects))

    later : IsPermutation (new ∷ objects) (with_object new objects) → nat_lt new.row.base object.row.base ≡ false → IsPermutation (new ∷ object ∷ objects) (with_object new (object ∷ objects))
    later rest f =
        subst (λ (b : Bool). IsPermutation (new ∷ object ∷ objects) (if b then new ∷ object ∷ objects else object ∷ with_object new objects)) (sym f)
        (IsPermutation-trans (new ∷ object ∷ objects) (object ∷ new ∷ objects) (object ∷ with_object new objects)
        (IsPermutation-sym (object ∷ new ∷ objects) (new ∷ object ∷ objects) (IsPermutation-middle (object ∷ []) new objects))
        (IsPermutation-cons object (new ∷ objects) (with_object new objects) rest))

pub sum-map : {X Y : Type 0} (n : Y → ℕ) (f : X → Y) (xs : List X) → sum_by n (map f xs) ≡ sum_by (λ x. n (f x)) xs
sum-map n f [] = refl
sum-map n f (x ∷ xs) = sum_by-cons n (f x) (map f xs) ∙ ap (λ s. n (f x) + s) (sum-map n f xs) ∙ sym (sum_by-cons (λ x. n (f x)) x xs)

module _ (image : List (List ℕ)) (frames : ℕ) (table : List ℕ) where
  abbrev spelled : ℕ × ObjectRow → Object
  spelled row = object_spelled image frames table row.1

  pub moved : (rows : List (ℕ × ObjectRow)) → IsPermutation (map spelled rows) (objects_spelled image frames table rows)
  moved [] = IsPermutation-refl []
  moved ((place, row) ∷ rows) =
      let object = object_spelled image frames table row in
      let rest = objects_spelled image frames table rows in
      IsPermutation-trans (object ∷ map spelled rows) (object ∷ rest) (with_object object rest) (IsPermutation-cons object (map spelled rows) rest (moved rows)) (inserted object rest)

  -- what is said of the rows is said of the objects
  pub spelled-used : (rows : List (ℕ × ObjectRow)) → used (objects_spelled image frames table rows) ≡ sum_by (λ (row : ℕ × ObjectRow). row.1.pages) rows
  spelled-used rows = sum_by-IsPermutation (λ (object : Object). object.row.pages) (map spelled rows) (objects_spelled image frames table rows) (moved rows) ∙ sum-map (λ (object : Object). object.row.pages) spelled rows

  pub spelled-count : (rows : List (ℕ × ObjectRow)) → length (objects_spelled image frames table rows) ≡ length rows
  spelled-count rows = length_permutation (map spelled rows) (objects_spelled image frames table rows) (moved rows) ∙ length-map rows spelled

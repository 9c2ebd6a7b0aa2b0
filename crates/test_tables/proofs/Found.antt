-- What a search finds is there.
use Rattle.std.{proofs.Common.{refl, sym, ap, ◌∙◌}, specs.{List.list_any, Option.option_map, Prelude.{◌≡◌, ◌||◌, Bool, true, false, List, [], ◌∷◌}}}
use Rattle.std.specs.Prelude.{Option, None, Some, find}

-- an element that passes
found_any : {X : Type 0} (test : X → Bool) (xs : List X) (found : X) → find test xs ≡ Some found → list_any test xs ≡ true
found_any test [] found is = cc
found_any test (x ∷ xs) found is = by_test (test x) refl (found_any test xs found)
  where
    by_test : (v : Bool) → test x ≡ v → (find test xs ≡ Some found → list_any test xs ≡ true) → list_any test (x ∷ xs) ≡ true
    by_test true e later = ap (λ t. t || list_any test xs) e
    by_test false e later = ap (λ t. t || list_any test xs) e ∙ later (sym (rest e) ∙ is)
      where
        rest : test x ≡ false → find test (x ∷ xs) ≡ find test xs
        rest fails = rw fails refl

-- also if a part of it is told
pub told_any : {X Y : Type 0} (part : X → Y) (test : X → Bool) (xs : List X) (told : Y) → Some told ≡ option_map part (find test xs) → list_any test xs ≡ true
told_any {X} {Y} part test xs told is = go (find test xs) refl is
  where
    go : (found : Option X) → find test xs ≡ found → Some told ≡ option_map part found → list_any test xs ≡ true
    go None at same = absurd (cc)
    go (Some x) at same = found_any test xs x at

-- Pages that meet no object as it is held meet no row.
use Rattle.{mg_model.specs.{Objects.{page_behind, page_of}, State.ObjectRow}, mg_volume.specs.Meaning.bare_rows, std.proofs.Common.{refl, arith}}
use Rattle.std.{proofs.lemmas.{Bool.Decides.nat_tests, List.Elements.{All-head, All-tail}}, specs.{List.list_all, Prelude.{◌≡◌, ◌+◌, ◌≤◌, ◌⊎◌, ◌||◌}}}
use Rattle.std.specs.Prelude.{ℕ, true, nat_le, All, List, [], ◌∷◌}

pub apart-bare : (page n : ℕ) (objects : List (ℕ × ObjectRow)) → All (λ (o : ℕ × ObjectRow). (page + n ≤ page_of o.1) ⊎ (page_behind o.1 ≤ page)) objects
    → list_all (λ (other : ObjectRow). nat_le (page + n) (page_of other) || nat_le (page_behind other) page) (bare_rows objects) ≡ true
apart-bare page n [] all = refl
apart-bare page n (o ∷ objects) all =
    let P : ℕ × ObjectRow → Type 0 = λ o. (page + n ≤ page_of o.1) ⊎ (page_behind o.1 ≤ page) in
    let here : (page + n ≤ page_of o.1) ⊎ (page_behind o.1 ≤ page) = All-head P o objects all in
    grind (arith, nat_tests, apart-bare page n objects (All-tail P o objects all))

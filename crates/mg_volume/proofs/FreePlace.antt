-- The lowest place that no object has.
use Rattle.{mg_model.specs.{Limits.object_limit, State.ObjectRow}, mg_objects.specs.Held.IsLowestFree, mg_volume.specs.Staging.free_from}
use Rattle.{mg_volume.specs.Staging.free_place, std.{proofs.{Common.{sym, ap, ◌∙◌, ⊎_elim, arith}, lemmas.Bool.cases_eq}, specs.List.list_any}}
use Rattle.std.specs.Prelude.{◌≡◌, ◌+◌, ◌≤◌, ◌<◌, ◌==◌, ℕ, zero, suc, Bool, true, false, List, if◌then◌else◌}

abbrev pub is_taken : List (ℕ × ObjectRow) → ℕ → Bool
is_taken objects place = list_any (λ (o : ℕ × ObjectRow). o.0 == place) objects

lowest-from : (objects : List (ℕ × ObjectRow)) (place at n : ℕ) → at ≤ place → place < at + n → is_taken objects place ≡ false → ((k : ℕ) → k < place → is_taken objects k ≡ true) → free_from objects at n ≡ place
lowest-from objects place at zero low high free taken = absurd (omega arith)
lowest-from objects place at (suc n) low high free taken =
    ⊎_elim
    (λ (here : at ≡ place). ap (λ b. if b then free_from objects (at + 1) n else at) (ap (is_taken objects) here ∙ free) ∙ here)
    (λ other.
    ap (λ b. if b then free_from objects (at + 1) n else at) (taken at (omega arith)) ∙ lowest-from objects place (at + 1) n (omega arith) (omega arith) free taken)
    (cases_eq at place)

pub lowest_is : (objects : List (ℕ × ObjectRow)) (place : ℕ) → IsLowestFree place objects → place ≡ free_place objects
lowest_is objects place is = sym (lowest-from objects place 0 object_limit (omega arith) (let w = is.within in omega arith) is.free is.lowest)

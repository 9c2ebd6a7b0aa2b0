-- What was staged still is.
use Rattle.{mg_model.specs.{Layout.{first_object_block, first_thread_block, globals_block}, State.ObjectRow}, mg_volume.specs.Held.VolumeHeld}
use Rattle.mg_volume.specs.{Meaning.objects_in, Staging.{ObjectsStillStaged, StillStaged, are_counters_staged, free_place, has_base}}
use Rattle.{mg_volume.specs.Staging.{is_object_staged, is_thread_staged, place_for}, std.proofs.Common.{refl, sym, ap, ◌∙◌, ⊎_elim, arith}}
use Rattle.std.{proofs.lemmas.Bool.{both_ways, cases_Bool}, specs.{Option.option_map_or, Prelude.{◌≡◌, ◌==◌, ◌||◌, ◌+◌, ◌-◌, ◌/◌, ℕ, true, false}}}
use Rattle.std.specs.Prelude.{List, [], ◌∷◌, find, if◌then◌else◌, map, Option, Some, None}
use Rattle.mg_pages.specs.Meaning as pages

abbrev pub with_base : ℕ → List (ℕ × ObjectRow) → Option (ℕ × ObjectRow)
with_base base objects = find (λ (o : ℕ × ObjectRow). o.1.base == base) objects

-- an object that is there is found, and one that is not is not
pub base_found : (base : ℕ) (os : List (ℕ × ObjectRow)) → has_base base (map (λ (o : ℕ × ObjectRow). o.1) os) ≡ true → (o : ℕ × ObjectRow) × (with_base base os ≡ Some o)
base_found base [] has = absurd (both_ways false refl has)
base_found base (o ∷ os) has =
    ⊎_elim (λ here. (o, ap (λ b. if b then Some o else with_base base os) here))
    (λ elsewhere.
    let rest = base_found base os (sym (ap (λ b. b || has_base base (map (λ (o : ℕ × ObjectRow). o.1) os)) elsewhere) ∙ has) in
    (rest.0, ap (λ b. if b then Some o else with_base base os) elsewhere ∙ rest.1))
    (cases_Bool (o.1.base == base))

pub base_absent : (base : ℕ) (os : List (ℕ × ObjectRow)) → has_base base (map (λ (o : ℕ × ObjectRow). o.1) os) ≡ false → with_base base os ≡ None
base_absent base [] none = refl
base_absent base (o ∷ os) none = grind (arith, none, base_absent base os)

-- the place of its row
pub place_found : (base : ℕ) (os : List (ℕ × ObjectRow)) (o : ℕ × ObjectRow) → with_base base os ≡ Some o → place_for base os ≡ o.0
place_found base os o found = ap (λ r. option_map_or (λ (o : ℕ × ObjectRow). o.0) r (free_place os)) found

pub place_new : (base : ℕ) (os : List (ℕ × ObjectRow)) → has_base base (map (λ (o : ℕ × ObjectRow). o.1) os) ≡ false → place_for base os ≡ free_place os
place_new base os none = ap (λ r. option_map_or (λ (o : ℕ × ObjectRow). o.0) r (free_place os)) (base_absent base os none)

-- which stays if it is found as before
pub place_same : (base : ℕ) (os os' : List (ℕ × ObjectRow)) → has_base base (map (λ (o : ℕ × ObjectRow). o.1) os) ≡ true → with_base base os' ≡ with_base base os → place_for base os' ≡ place_for base os
place_same base os os' has same =
    let there = base_found base os has in
    place_found base os' there.0 (same ∙ there.1) ∙ sym (place_found base os there.0 there.1)

-- of volumes if each block that was staged is
pub still_staged : (v w : VolumeHeld) → ((block : ℕ) → pages.is_staged v.pages block ≡ true → pages.is_staged w.pages block ≡ true) → StillStaged v w
unfolding are_counters_staged is_thread_staged
still_staged v w still = record { counters = still globals_block; thread = λ t. still (first_thread_block + t - 1) }

-- and each object has its place
pub objects_still : (v w : VolumeHeld) → ((block : ℕ) → pages.is_staged v.pages block ≡ true → pages.is_staged w.pages block ≡ true)
    → ((base : ℕ) → has_base base (objects_in v) ≡ true → has_base base (objects_in w) ≡ true → place_for base w.objects ≡ place_for base v.objects) → ObjectsStillStaged v w
unfolding is_object_staged
objects_still v w still places =
    λ base was is staged. ap (λ place. pages.is_staged w.pages (first_object_block + place / 4)) (places base was is) ∙ still (first_object_block + place_for base v.objects / 4) staged

-- when the objects are the same
pub objects_wait : (v w : VolumeHeld) → w.objects ≡ v.objects → ((block : ℕ) → pages.is_staged v.pages block ≡ true → pages.is_staged w.pages block ≡ true) → ObjectsStillStaged v w
objects_wait v w same each = objects_still v w each (λ base was is. ap (place_for base) same)

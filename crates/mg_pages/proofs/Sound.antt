-- What every value of the pages keeps.
use Rattle.{mg_journal.specs.{Contents.names, Staged.{goes_to, staged}}, mg_model.specs.{Layout.{body_limit, globals_block}, Tests.all_distinct}}
use Rattle.{mg_model.specs.Volume.bound_pages, mg_pages.proofs.Staging.{fit-staged, length-again, length-staged, once-staged, place-named}}
use Rattle.{mg_pages.specs.Held.IsSound, std.{proofs.Common.{⊎_elim, inl, inr, arith}, specs.{List.position, Prelude.{◌≡◌, ◌⊎◌, ◌≤◌, ◌<◌, ℕ, true}}}}
use Rattle.std.specs.Prelude.{List, length, IsSome}

-- a write more, if there is room
pub room-staged : (writes : List (ℕ × List ℕ)) (block : ℕ) → (names writes block ≡ true) ⊎ (length writes < body_limit) → IsSome (position (goes_to block) writes) ⊎ (length writes < body_limit)
room-staged writes block room = ⊎_elim (λ named. inl (place-named writes block named)) (λ few. inr few) room

pub few-staged : (writes : List (ℕ × List ℕ)) (block : ℕ) (bytes : List ℕ) → length writes ≤ body_limit → (names writes block ≡ true) ⊎ (length writes < body_limit) → length (staged writes block bytes) ≤ body_limit
few-staged writes block bytes few room = grind (arith, length-again, length-staged)

pub sound-staged : (total : ℕ) (frames : List ℕ) (writes : List (ℕ × List ℕ)) (block : ℕ) (bytes : List ℕ) → globals_block ≤ block → block < total
    → (names writes block ≡ true) ⊎ (length writes < body_limit) → IsSound total frames writes → IsSound total frames (staged writes block bytes)
sound-staged total frames writes block bytes low high room sound = grind (arith, few-staged, fit-staged, once-staged)

-- other frames, as many
pub sound-frames : (total : ℕ) (frames frames' : List ℕ) (writes : List (ℕ × List ℕ)) → length frames' ≡ length frames → all_distinct (bound_pages frames') ≡ true → IsSound total frames writes → IsSound total frames' writes
sound-frames total frames frames' writes same distinct sound = grind arith

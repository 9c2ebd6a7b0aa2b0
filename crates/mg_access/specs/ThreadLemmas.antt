-- The row of a thread that lives, as it is held and as the state has it.
use Rattle.std.{proofs.Common.{refl, ap, ◌∙◌}, specs.{List.list_any, Option.option_map_or, Prelude.{◌≡◌, ◌==◌, ◌||◌}}}
use Rattle.std.specs.Prelude.{ℕ, Bool, true, false, List, [], ◌∷◌, find, if◌then◌else◌, option_map, IfSome, Option}
use Rattle.std.specs.Prelude.{Some, None}
use Rattle.{mg_disk.specs.Disk.Image, mg_model.specs.{Access.{last_slots, thread_of}, State.{Thread, ThreadRow}}}
use Rattle.mg_volume.specs.{Held.VolumeHeld, Meaning.{now_of, threads_in}, RunLemmas.told_thread}

-- a thread that lives has a row
pub lives-row : (t : ℕ) (threads : List Thread) → list_any (λ (thread : Thread). thread.number == t) threads ≡ true → option_map (λ (thread : Thread). thread.row) (find (λ (thread : Thread). thread.number == t) threads) ≡ None → ⊥
lives-row t [] is none = cc
lives-row t (thread ∷ threads) is none = by_test (thread.number == t) is none (lives-row t threads)
  where
    by_test : (v : Bool) → (v || list_any (λ (x : Thread). x.number == t) threads) ≡ true → option_map (λ (x : Thread). x.row) (if v then Some thread else find (λ (x : Thread). x.number == t) threads) ≡ None
        → (list_any (λ (x : Thread). x.number == t) threads ≡ true → option_map (λ (x : Thread). x.row) (find (λ (x : Thread). x.number == t) threads) ≡ None → ⊥) → ⊥
    by_test true is none later = cc
    by_test false is none later = later is none

-- the slots of a thread, by its row
pub slots-of : (found : Option Thread) (thread : ThreadRow) → option_map (λ (x : Thread). x.row) found ≡ Some thread → option_map_or (λ (x : Thread). last_slots x.row.frames) found [] ≡ last_slots thread.frames
slots-of None thread h = cc
slots-of (Some x) thread h = let same : x.row ≡ thread = cc in ap (λ (r : ThreadRow). last_slots r.frames) same

-- the row that is held is the state's
pub told-row : (v : VolumeHeld) (image : Image) (t : ℕ) (thread : ThreadRow) → option_map (λ (x : Thread). x.row) (find (λ (x : Thread). x.number == t) (threads_in v)) ≡ Some thread → option_map (λ (x : Thread). x.row) (thread_of (now_of v image) t) ≡ Some thread
told-row v image t thread held = ap (option_map (λ (x : Thread). x.row)) (told_thread v image t (find (λ (x : Thread). x.number == t) (threads_in v)) refl) ∙ held

-- a change of it
pub change-gives : (found : Option Thread) (thread new : ThreadRow) (change : ThreadRow → ThreadRow) → option_map (λ (x : Thread). x.row) found ≡ Some thread → change thread ≡ new → IfSome found (λ (x : Thread). change x.row ≡ new)
change-gives None thread new change h gives = tt
change-gives (Some x) thread new change h gives = let same : x.row ≡ thread = cc in ap change same ∙ gives

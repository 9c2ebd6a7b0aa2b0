-- A search among the threads that are held is one among those of the state.
use Rattle.{mg_disk.specs.Disk.Image, mg_model.specs.{Abbreviations.free_number, State.{Thread, ThreadRow}, Turn.{is_ready, picked, ready_above}}}
use Rattle.mg_volume.{proofs.{Found.{as_thread, find-mapped}, ThreadLists.any-mapped, ThreadSearch.takes_turn}, specs.Held.VolumeHeld}
use Rattle.mg_volume.specs.{Meaning.{counters_in, now_of, threads_in}, Numbered.IsFreeNumber, Staging.lives, StateLemmas.{now_counters, now_threads}}
use Rattle.std.{proofs.{Common.{refl, sym, ap, ◌∙◌, arith}, lemmas.List.length-map}, specs.{Option.option_or, Prelude.{◌≡◌, ◌≤◌, ◌<◌, ◌&&◌, nat_lt}}}
use Rattle.std.specs.Prelude.{ℕ, false, find, length, map, MatchOption, Option, Some, None, option_map}

pub free_held : (v : VolumeHeld) (found : Option ℕ) → IsFreeNumber v.threads found
    → MatchOption found (256 ≤ length (threads_in v)) (λ n. (length (threads_in v) < 256) × (n ≡ free_number (threads_in v)) × (lives v n ≡ false))
unfolding threads_in
free_held v None all = let same : length (map as_thread v.threads) ≡ length v.threads = length-map v.threads as_thread in omega arith
free_held v (Some n) (few, is, none) = let same : length (map as_thread v.threads) ≡ length v.threads = length-map v.threads as_thread in (omega arith, is, sym (any-mapped n v.threads) ∙ none)

above_held : (v : VolumeHeld) (t : ℕ) → option_map (λ (thread : Thread). thread.number) (ready_above t (threads_in v)) ≡ option_map (λ (x : ℕ × ThreadRow). x.0) (find (takes_turn t) v.threads)
unfolding threads_in
above_held v t = ap (option_map (λ (thread : Thread). thread.number)) (find-mapped as_thread (λ (thread : Thread). is_ready thread.row.state && nat_lt t thread.number) v.threads) ∙ by_found (find (takes_turn t) v.threads)
  where
    by_found : (o : Option (ℕ × ThreadRow)) → option_map (λ (thread : Thread). thread.number) (option_map as_thread o) ≡ option_map (λ (x : ℕ × ThreadRow). x.0) o
    by_found None = refl
    by_found (Some x) = refl

either-number : (first again : Option Thread) → option_map (λ (thread : Thread). thread.number) (option_or first again) ≡ option_or (option_map (λ (thread : Thread). thread.number) first) (option_map (λ (thread : Thread). thread.number) again)
either-number None again = refl
either-number (Some thread) again = refl

pub picked_held : (v : VolumeHeld) (image : Image) (cursor : ℕ) → cursor ≡ (counters_in v).cursor
    → option_map (λ (thread : Thread). thread.number) (picked (now_of v image)) ≡ option_or (option_map (λ (x : ℕ × ThreadRow). x.0) (find (takes_turn cursor) v.threads)) (option_map (λ (x : ℕ × ThreadRow). x.0) (find (takes_turn 0) v.threads))
picked_held v image cursor is = grind (arith, now_threads, now_counters, either-number, above_held, takes_turn)

-- the thread that has the next turn is that of the first search, or else of the second
pub next_first : (v : VolumeHeld) (image : Image) (cursor t : ℕ) → cursor ≡ (counters_in v).cursor → Some t ≡ option_map (λ (x : ℕ × ThreadRow). x.0) (find (takes_turn cursor) v.threads)
    → Some t ≡ option_map (λ (thread : Thread). thread.number) (picked (now_of v image))
next_first v image cursor t is found = grind (arith, picked_held, takes_turn)

pub next_again : (v : VolumeHeld) (image : Image) (cursor : ℕ) (again : Option ℕ) → cursor ≡ (counters_in v).cursor → None ≡ option_map (λ (x : ℕ × ThreadRow). x.0) (find (takes_turn cursor) v.threads)
    → again ≡ option_map (λ (x : ℕ × ThreadRow). x.0) (find (takes_turn 0) v.threads) → again ≡ option_map (λ (thread : Thread). thread.number) (picked (now_of v image))
next_again v image cursor again is none found = grind (arith, picked_held, takes_turn)

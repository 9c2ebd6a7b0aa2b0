-- The block that a call stages, in words of the volume.
use Rattle.{mg_model.specs.Layout.{first_thread_block, globals_block}, mg_volume.specs.{Held.VolumeHeld, Meaning.staged_of}}
use Rattle.{mg_volume.specs.Staging.{are_counters_staged, is_thread_staged}, std.specs.Prelude.{◌≡◌, ◌⊎◌, ◌+◌, ◌-◌, ◌<◌, ℕ, true}}
use Rattle.mg_pages.specs.Meaning as pages

-- the block of the counters
pub counters_room : (v : VolumeHeld) → (are_counters_staged v ≡ true) ⊎ (staged_of v < 160) → (pages.is_staged v.pages globals_block ≡ true) ⊎ (pages.staged_of v.pages < 160)
unfolding are_counters_staged staged_of
counters_room v room = room

pub counters_here : (w : VolumeHeld) → pages.is_staged w.pages globals_block ≡ true → are_counters_staged w ≡ true
unfolding are_counters_staged
counters_here w here = here

-- that of a thread
pub thread_room : (v : VolumeHeld) (t : ℕ) → (is_thread_staged v t ≡ true) ⊎ (staged_of v < 160) → (pages.is_staged v.pages (first_thread_block + t - 1) ≡ true) ⊎ (pages.staged_of v.pages < 160)
unfolding is_thread_staged staged_of
thread_room v t room = room

pub thread_here : (w : VolumeHeld) (t : ℕ) → pages.is_staged w.pages (first_thread_block + t - 1) ≡ true → is_thread_staged w t ≡ true
unfolding is_thread_staged
thread_here w t here = here

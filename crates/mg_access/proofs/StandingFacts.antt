-- What is known of the state of a volume that stands on a disk.
use Rattle.{mg_access.{proofs.Apart.word-based, specs.Searching.words_based}, mg_disk.specs.Disk.Image, mg_model.specs.{Bank.used, Objects.word_at}}
use Rattle.mg_model.specs.{State.{Object, ObjectRow, State}, Tests.is_object_row, Volume.{accounts_fit, are_apart, threads_fit}}
use Rattle.{mg_model.specs.WellFormed.IsWellFormed, mg_volume.specs.{FormedLemmas.formed_sound, Held.VolumeHeld, Meaning.{IsSpelledBy, is_sound}}}
use Rattle.{mg_volume.specs.{Meaning.{now_of, objects_in}, RangeLemmas.held_rows, RunLemmas.told_rows, StateLemmas.now_rows}, std.proofs.Common.ℕ}
use Rattle.std.proofs.Common.{◌+◌, ◌*◌, ◌/◌, ◌<◌, ◌≡◌, ◌==◌, ◌&&◌, Bool, true, false, length, Option, None, Some, refl, sym, subst}
use Rattle.std.specs.{List.list_all, Prelude.{IsSome, find, nat_le, slice_index}}

middle : (a b c d e : Bool) → (a && (b && c && d) && e) ≡ true → b ≡ true
middle true true c d e h = refl
middle true false c d e h = cc
middle false b c d e h = cc

-- the objects of a sound state lie apart
sound-apart : (state : State) → is_sound state ≡ true → are_apart state.objects ≡ true
sound-apart state sound =
    middle (accounts_fit state.settings.credits state.counters.period state.accounts) (are_apart state.objects)
    (list_all (λ (object : Object). nat_le object.row.account (length state.accounts)) state.objects) (nat_le (used state.objects) state.settings.frames) (threads_fit state.counters.births state.threads) sound

-- the word of the first page of the object with a base, by its address and by its place
pub told-word : (v : VolumeHeld) (image : Image) → IsSpelledBy v image → IsWellFormed (now_of v image) → (base : ℕ) → IsSome (find (λ (r : ObjectRow). r.base == base) (objects_in v)) → (index : ℕ) → index < 512
    → word_at (now_of v image).objects (4096 * (base / 4096) + 8 * index) ≡ slice_index (words_based (now_of v image).objects base) index
told-word v image fits formed base held index few = by_found (find (λ (r : ObjectRow). r.base == base) (objects_in v)) refl held
  where
    by_found : (o : Option ObjectRow) → find (λ (r : ObjectRow). r.base == base) (objects_in v) ≡ o → IsSome o
        → word_at (now_of v image).objects (4096 * (base / 4096) + 8 * index) ≡ slice_index (words_based (now_of v image).objects base) index
    by_found None found some = cc
    by_found (Some row) found some =
        word-based (now_of v image).objects (sound-apart (now_of v image) (formed_sound (now_of v image) formed))
        (subst (λ rows. list_all is_object_row rows ≡ true) (sym (now_rows v image)) (held_rows v image fits)) row base
        (told_rows v image (λ (r : ObjectRow). r.base == base) (Some row) found) index few

-- What is opened is fresh, if what it was opened from is.
use Rattle.{mg_disk.specs.Disk.Image, mg_model.specs.{Draw.password_drawn, Fresh.fresh, Settings.Settings, State.{Object, State, Thread}, Volume.Is}}
use Rattle.{mg_model.specs.Volume.{VolumeRead, volume}, mg_volume.specs.{Held.VolumeHeld, Meaning.{now_of, staged_of}, Opening.Opens}}
use Rattle.{mg_volume.specs.StateLemmas.{now_rows, now_settings, now_threads}, std.{proofs.Common.{refl, sym, ap, ◌∙◌}, specs.List.list_any}}
use Rattle.{std.specs.{Option.ForSome, Prelude.{◌≡◌, ◌==◌, List, map, IsSomeAnd, Option, Some, None}}, test_kernel.specs.Fresh.IsFresh}

fresh_opened : (settings : Settings) (v : VolumeHeld) (before : VolumeRead) (told : Option Image) → before ≡ Is (fresh settings) → Opens before v told → settings.frames ≡ 64 → staged_of v ≡ 0 → IsFresh v
fresh_opened settings v before told is opens frames staged =
    let same : Is opens.state ≡ Is (fresh settings) = sym opens.is ∙ is in
    let state : opens.state ≡ fresh settings = cc in
    let now : now_of v opens.holds.image ≡ fresh settings = opens.holds.now ∙ state in
    record {
      password = password_drawn settings.seed 0;
      rows = sym (now_rows v opens.holds.image) ∙ ap (λ (s : State). map (λ (object : Object). object.row) s.objects) now;
      frames = ap (λ (s : Settings). s.frames) (sym (now_settings v opens.holds.image) ∙ ap (λ (s : State). s.settings) now) ∙ frames;
      lives = ap (λ (threads : List Thread). list_any (λ (thread : Thread). thread.number == 1) threads) (sym (now_threads v opens.holds.image) ∙ ap (λ (s : State). s.threads) now);
      staged = staged;
    }

pub fresh_seen : (settings : Settings) (v : VolumeHeld) (seen told : Option Image) → IsSomeAnd seen (λ image. volume image ≡ Is (fresh settings)) → ForSome seen (λ image. Opens (volume image) v told) → settings.frames ≡ 64 → staged_of v ≡ 0
    → IsFresh v
fresh_seen settings v None told is opens frames staged = absurd is
fresh_seen settings v (Some image) told is opens frames staged = fresh_opened settings v (volume image) told is (opens image refl) frames staged

-- Images that are no volume, and what they spell.
use Rattle.mg_model.specs.{Abbreviations.{segments_fit, writes_since}, Bytes.{bytes_at, number_at}, Layout.{body_limit, magic, segment_count}}
use Rattle.mg_model.specs.{Layout.{super_block, total_blocks, version}, Replay.{block_of, body_count, is_open, replay, segment_fits, written}}
use Rattle.mg_model.specs.{Settings.Settings, Spelling.{are_settings, super_bytes, super_fields, super_read, Spells}, SuperblockLemmas.super_read-bad}
use Rattle.mg_model.specs.{SuperblockLemmas.super_read-old, Volume.{Damaged, OldVolume, replayed_volume, volume, volume_behind, IsOpened}}
use Rattle.{mg_model.specs.{VolumeLemmas.volume-opened, Words.same_bytes}, std.proofs.{Common.{rules, refl, ap, ◌∙◌, arith}, lemmas.Bool.and_left}}
use Rattle.std.{proofs.lemmas.Bool.{and_right, cases_eq, false_from_ne_true, lt-leb, Decides.nat_tests}, specs.{Option.option_map_or, Prelude.◌≡◌}}
use Rattle.std.specs.Prelude.{◌⊎◌, Bool, ℕ, zero, suc, ◌+◌, ◌<◌, ◌≤◌, nat_le, true, false, List, if◌then◌else◌, length, Some, None}

pub old_version : (image : List (List ℕ)) → IsOpened image → same_bytes magic (bytes_at (block_of image super_block) 0 8) ≡ true → number_at (block_of image super_block) 8 < version → volume image ≡ OldVolume
old_version image opened begins older = volume-opened image opened ∙ ap (volume_behind image) (super_read-old (block_of image super_block) begins older)

later_super : (bytes : List ℕ) → version < number_at bytes 8 → same_bytes (super_bytes (super_fields bytes)) bytes ≡ false
later_super bytes later = search (rules, false_from_ne_true)

pub later_version : (image : List (List ℕ)) → IsOpened image → same_bytes magic (bytes_at (block_of image super_block) 0 8) ≡ true → version < number_at (block_of image super_block) 8 → volume image ≡ Damaged
later_version image opened begins later =
    let bytes = block_of image super_block in
    volume-opened image opened
    ∙ ap (volume_behind image) (super_read-bad bytes begins (omega arith) (and_right (are_settings (super_fields bytes)) (same_bytes (super_bytes (super_fields bytes)) bytes) (later_super bytes later)))

-- an open segment with a count above its limit of bodies
full_segment : (total : ℕ) (image : List (List ℕ)) (s : ℕ) → is_open image s ≡ true → body_limit < body_count image s → segment_fits total image s ≡ false
full_segment total image s opened over = grind (arith, and_left, lt-leb)

unfit_among : (total : ℕ) (image : List (List ℕ)) (s from n : ℕ) → from ≤ s → s < from + n → segment_fits total image s ≡ false → segments_fit total image from n ≡ false
unfit_among total image s from zero low high unfit = absurd (omega arith)
unfit_among total image s from (suc n) low high unfit = step (cases_eq s from) (λ above. unfit_among total image s (from + 1) n above (omega arith) unfit)
  where
    step : (s ≡ from) ⊎ (s ≡ from → ⊥) → (from + 1 ≤ s → segments_fit total image (from + 1) n ≡ false) → segments_fit total image from (suc n) ≡ false
    step here_or_not later = grind (arith, nat_tests, and_left, and_right)

pub overfull : (image : List (List ℕ)) (settings : Settings) (s : ℕ) → IsOpened image → super_read (block_of image super_block) ≡ Spells settings → s < segment_count → is_open image s ≡ true → body_limit < body_count image s
    → volume image ≡ Damaged
overfull image settings s opened read few gate over =
    let total = total_blocks settings.frames in
    let unfit = unfit_among total image s 0 segment_count (omega arith) (omega arith) (full_segment total image s gate over) in
    let none : replay image total ≡ None = ap (λ t. if t then Some (written image (writes_since image 0 segment_count)) else None) unfit in
    volume-opened image opened ∙ ap (volume_behind image) read
    ∙ ap (λ r. if nat_le total (length image) then option_map_or (λ replayed. replayed_volume settings replayed) r Damaged else Damaged) none
    ∙ both (nat_le total (length image))
  where
    both : (b : Bool) → (if b then Damaged else Damaged) ≡ Damaged
    both true = refl
    both false = refl

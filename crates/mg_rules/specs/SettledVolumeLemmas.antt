-- From what is said of the rows to what is said of the image.
use Rattle.std.proofs.{Common.{arith, refl, sym, ap, ◌∙◌}, lemmas.Bool.{and_from, eq-eqb, eqb-true, le-leb, lt-leb}}
use Rattle.std.specs.{Option.option_map_or, Prelude.{◌≡◌, ℕ, ◌<◌, ◌≤◌, ◌==◌, nat_le, Bool, true, List, IsSome}}
use Rattle.std.specs.Prelude.{if◌then◌else◌, length, Option, None, Some}
use Rattle.mg_model.specs.{Layout.{gate_open, super_block, total_blocks}, Replay.{block_of, replay}, Settings.Settings}
use Rattle.mg_model.specs.{Spelling.{Spells, SuperRead, super_read}, Volume.{Damaged, VolumeRead, replayed_volume}}
use Rattle.mg_model.specs.Volume.{rows_of, settled_volume, volume, volume_behind, IsOpened, gate_byte}
use Rattle.{mg_model.specs.VolumeLemmas.volume-opened, mg_rules.specs.{RowsRead.IsReadAs, RowsTold.TellsRows}}
use Rattle.mg_rules.specs.{Settled.{HasSettings, IsSettled}, declared.volume_rows.VolumeRows.VolumeRows}

pub some_in : {X : Type 0} (o : Option X) → IsSome o → (x : X) × (o ≡ Some x)
some_in None is = absurd (cc)
some_in (Some x) is = (x, refl)

module _ (settings : Settings) (image : List (List ℕ)) where
  abbrev settled : Bool → Option (List (List ℕ)) → VolumeRead
  settled long replayed = if long then option_map_or (λ r. replayed_volume settings r) replayed Damaged else Damaged

  pub settled-short : length image < total_blocks settings.frames → settled_volume image settings ≡ Damaged
  settled-short short = ap (λ t. settled t (replay image (total_blocks settings.frames))) (lt-leb (total_blocks settings.frames) (length image) short)

  settled_at : (replayed : Option (List (List ℕ))) → total_blocks settings.frames ≤ length image → replay image (total_blocks settings.frames) ≡ replayed
      → settled_volume image settings ≡ option_map_or (λ r. replayed_volume settings r) replayed Damaged
  settled_at replayed long is = grind (arith, le-leb)

  pub settled-damaged : (r : List (List ℕ)) → total_blocks settings.frames ≤ length image → replay image (total_blocks settings.frames) ≡ Some r → replayed_volume settings r ≡ Damaged → settled_volume image settings ≡ Damaged
  settled-damaged r long is broken = settled_at (Some r) long is ∙ broken

  -- the volume
  volume_settled : HasSettings settings image → volume image ≡ settled_volume image settings
  volume_settled has = volume-opened image has.opened ∙ ap (volume_behind image) has.spelled

  pub volume-damaged : HasSettings settings image → settled_volume image settings ≡ Damaged → volume image ≡ Damaged
  volume-damaged has broken = volume_settled has ∙ broken

-- rows that were read
module _ (settings : Settings) (image : List (List ℕ)) (rows : VolumeRows) where
  pub settled-tells : (r : List (List ℕ)) → total_blocks settings.frames ≤ length image → replay image (total_blocks settings.frames) ≡ Some r → TellsRows settings rows r → IsSettled settings rows image
  settled-tells r long is tells = record { replayed = r; replay_is = is; rows_are = tells.are; is = settled_at settings image (Some r) long is ∙ tells.is }

  pub volume-read : rows.params ≡ settings → HasSettings settings image → IsSettled settings rows image → IsReadAs rows image
  volume-read same has settled = record {
    gated = and_from (nat_le 2 (length image)) (gate_byte image == gate_open) (le-leb 2 (length image) has.opened.long) (eq-eqb (gate_byte image) gate_open has.opened.gate);
    super = has.spelled ∙ ap (λ s. Spells s) (sym same);
    replayed = settled.replayed;
    replay_is = ap (λ (s : Settings). replay image (total_blocks s.frames)) same ∙ settled.replay_is;
    rows_are = ap (λ (s : Settings). rows_of settled.replayed s.frames) same ∙ settled.rows_are;
    is = volume_settled settings image has ∙ settled.is;
  }

-- an image with an open gate, and what its superblock spells
pub opened-by : (image : List (List ℕ)) → 2 ≤ length image → (gate_byte image == gate_open) ≡ true → IsOpened image
opened-by image long gate = record { long = long; gate = eqb-true (gate_byte image) gate_open gate }

pub volume-behind : (image : List (List ℕ)) (read : SuperRead) → IsOpened image → super_read (block_of image super_block) ≡ read → volume image ≡ volume_behind image read
volume-behind image read opened spelled = volume-opened image opened ∙ ap (volume_behind image) spelled

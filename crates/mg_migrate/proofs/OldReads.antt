-- What was read of an old image says this of it.
use Rattle.{mg_check.specs.Reads.contents, mg_disk.specs.{Disk.Image, declared.disk.Disk.Ghosts}, mg_journal.specs.Looked.{Fits, Placed}}
use Rattle.mg_migrate.proofs.{LiftedState.replayed-lifted, Volume1Reads.{replayed1-is, settled1-none, settled1-short, volume1-opened}}
use Rattle.mg_migrate.specs.{Layout1.total1_blocks, Lifted.lifted, LiftedView.LiftedView, OldRead.{HasSettings1, IsOldRead, IsSeen1}}
use Rattle.mg_migrate.specs.{Spelling1.{Spells1, Super1Read, super1_read}, Version1.{Damaged1, as_volume1, lift_volume, replayed1_volume}}
use Rattle.{mg_migrate.specs.Version1.{settled1_volume, volume1, volume1_behind}, mg_model.specs.{Layout.{gate_open, super_block}, Replay.block_of}}
use Rattle.mg_model.specs.{Replay.replay, Settings.Settings, Volume.{Damaged, Is, IsOpened, NotVolume, OldVolume, VolumeRead, gate_byte}}
use Rattle.{mg_model.specs.Volume.replayed_volume, mg_rules.specs.{RowsTold.{HasNoState, TellsRows}, declared.volume_rows.VolumeRows.VolumeRows}}
use Rattle.std.{proofs.{Common.{arith, refl, sym, ap, subst, ◌∙◌}, lemmas.Bool.eqb-true}, specs.Prelude.{◌≡◌, ◌<◌, ◌≤◌, ◌==◌, true, length, IsSome}}
use Rattle.std.specs.Prelude.{Option, None, Some, option_map}

-- an image with an open gate, and what its superblock spells
pub opened-by : (image : Image) → 2 ≤ length image → (gate_byte image == gate_open) ≡ true → IsOpened image
opened-by image long gate = record { long = long; gate = eqb-true (gate_byte image) gate_open gate }

pub behind : (image : Image) (read : Super1Read) → IsOpened image → super1_read (block_of image super_block) ≡ read → volume1 image ≡ volume1_behind image read
behind image read opened spelled = volume1-opened image opened ∙ ap (volume1_behind image) spelled

-- the journal of an image with these settings
module _ (settings : Settings) (image : Image) (has : HasSettings1 settings image) where
  settled : settled1_volume image settings ≡ Damaged → volume1 image ≡ Damaged1
  settled broken = behind image (Spells1 settings) has.opened has.super ∙ ap as_volume1 broken

  pub too_short : length image < total1_blocks settings.frames → volume1 image ≡ Damaged1
  too_short short = settled (settled1-short settings image short)

  pub not_replayed : total1_blocks settings.frames ≤ length image → replay image (total1_blocks settings.frames) ≡ None → volume1 image ≡ Damaged1
  not_replayed long none = settled (settled1-none settings image long none)

  pub is_seen : (view : Placed) (seen : LiftedView) → seen ≡ record { placed = view; settings = settings } → view.total ≡ total1_blocks settings.frames → total1_blocks settings.frames ≤ length image
      → IsSome (replay image (total1_blocks settings.frames)) → Fits view image → IsSeen1 seen image
  is_seen view seen is total long some fits = subst (λ seen. IsSeen1 seen image) (sym is) (by_replay (replay image (total1_blocks settings.frames)) refl some)
    where
      by_replay : (o : Option Image) → replay image (total1_blocks settings.frames) ≡ o → IsSome o → IsSeen1 (record { placed = view; settings = settings }) image
      by_replay None same is = absurd (cc)
      by_replay (Some r) same is = record {
        total = total;
        replayed = r;
        is = record { opened = has.opened; super = has.super; long = long; is = same };
        fits = fits;
      }

-- the lifted contents of a volume that is seen so
pub lifted_contents : {D : Type 0} (facts : Ghosts D) (disk : D) (seen : LiftedView) (image : Image) (is : IsSeen1 seen image) → facts.seen disk ≡ Some image
    → contents facts (λ image. option_map (lifted seen.settings) (replay image seen.placed.total)) disk ≡ Some (lifted seen.settings is.replayed)
lifted_contents facts disk seen image is told = grind arith

lifts-damage : (v : VolumeRead) → lift_volume v ≡ Damaged → v ≡ Damaged
lifts-damage NotVolume e = e
lifts-damage OldVolume e = e
lifts-damage Damaged e = refl
lifts-damage (Is state) e = absurd (cc)

-- the rows of a volume that is seen so
module _ (settings : Settings) (seen : LiftedView) (same : seen.settings ≡ settings) (image : Image) (is : IsSeen1 seen image) where
  pub without_state : HasNoState settings (lifted seen.settings is.replayed) → volume1 image ≡ Damaged1
  without_state broken =
      let damage : replayed_volume seen.settings (lifted seen.settings is.replayed) ≡ Damaged = ap (λ settings. replayed_volume settings (lifted seen.settings is.replayed)) same ∙ broken.none in
      replayed1-is seen.settings image is.replayed is.is
      ∙ ap as_volume1 (lifts-damage (replayed1_volume seen.settings is.replayed) (sym (replayed-lifted seen.settings is.replayed) ∙ damage))

  pub read_so : (rows : VolumeRows) → TellsRows settings rows (lifted seen.settings is.replayed) → IsOldRead seen rows image
  read_so rows tells = record {
    replayed = is.replayed;
    is = is.is;
    fits = is.fits;
    told = ap (λ settings. replayed_volume settings (lifted seen.settings is.replayed)) same ∙ tells.is;
  }

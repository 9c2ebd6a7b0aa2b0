-- What was read of a volume of version 1.
use Rattle.std.specs.Prelude.{◌≡◌, Result, Ok, Err}
use Rattle.{mg_disk.specs.Disk.Image, mg_journal.specs.Looked.Fits, mg_migrate.specs.Layout1.total1_blocks}
use Rattle.mg_migrate.specs.{Lifted.{IsReplayed1, lifted}, LiftedView.LiftedView, Spelling1.{Spells1, super1_read}}
use Rattle.mg_migrate.specs.Version1.{Damaged1, NewVolume1, NotVolume1, OldVolume1, Volume1Read}
use Rattle.{mg_migrate.specs.declared.migrating.MigrateFault.MigrateFault, mg_model.specs.Layout.super_block}
use Rattle.mg_model.specs.{Replay.block_of, Settings.Settings, Volume.{Is, IsOpened, replayed_volume}}
use Rattle.mg_rules.specs.{RowsRead.state_in, declared.volume_rows.VolumeRows.VolumeRows}
use Rattle.mg_migrate.specs.declared.migrating.MigrateFault.TheVariants as fault

-- its gate is open, and its superblock spells these settings as version 1 does
pub record HasSettings1 (settings : Settings) (image : Image) : Type 0 where
  pub opened : IsOpened image
  pub super : super1_read (block_of image super_block) ≡ Spells1 settings

-- the image has a volume of version 1 that is seen so
pub record IsSeen1 (seen : LiftedView) (image : Image) : Type 0 where
  pub total : seen.placed.total ≡ total1_blocks seen.settings.frames
  pub replayed : Image
  pub is : IsReplayed1 seen.settings image replayed
  pub fits : Fits seen.placed image

-- the image has a volume of version 1 that is seen so, and once it is lifted it spells these rows, and so their state
pub record IsOldRead (seen : LiftedView) (rows : VolumeRows) (image : Image) : Type 0 where
  pub replayed : Image
  pub is : IsReplayed1 seen.settings image replayed
  pub fits : Fits seen.placed image
  pub told : replayed_volume seen.settings (lifted seen.settings replayed) ≡ Is (state_in rows (lifted seen.settings replayed))

-- What a fault says of the image: no fault of the new disk comes.
abbrev pub TellsOld : {T : Type 0} → Result T MigrateFault → Volume1Read → Type 0
TellsOld (Ok read) old = Unit {0}
TellsOld (Err fault.OldDisk) old = Unit {0}
TellsOld (Err fault.Not) old = old ≡ NotVolume1
TellsOld (Err fault.Old) old = old ≡ OldVolume1
TellsOld (Err fault.New) old = old ≡ NewVolume1
TellsOld (Err fault.Damaged) old = old ≡ Damaged1
TellsOld (Err (fault.TooSmall need have)) old = ⊥
TellsOld (Err fault.Memory) old = Unit {0}
TellsOld (Err fault.NewDisk) old = ⊥

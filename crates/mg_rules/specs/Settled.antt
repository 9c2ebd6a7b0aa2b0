-- What is reported of an image with a superblock.
use Rattle.std.specs.Prelude.{◌≡◌, ℕ, List, Some}
use Rattle.{mg_disk.specs.Disk.Image, mg_model.specs.{Layout.{super_block, total_blocks}, Replay.{block_of, replay}}}
use Rattle.mg_model.specs.{Settings.Settings, Spelling.{Spells, super_read}, Volume.{Is, IsOpened, rows_of}}
use Rattle.{mg_model.specs.Volume.settled_volume, mg_rules.specs.RowsRead.{rows_in, state_in}}
use Rattle.mg_rules.specs.declared.volume_rows.VolumeRows.{VolumeRows}

-- its gate is open, and its superblock spells these settings
pub record HasSettings (settings : Settings) (image : List (List ℕ)) : Type 0 where
  pub opened : IsOpened image
  pub spelled : super_read (block_of image super_block) ≡ Spells settings

-- with these settings it replays to one that spells these rows, and so to their state
pub record IsSettled (settings : Settings) (rows : VolumeRows) (image : List (List ℕ)) : Type 0 where
  pub replayed : Image
  pub replay_is : replay image (total_blocks settings.frames) ≡ Some replayed
  pub rows_are : rows_of replayed settings.frames ≡ Some (rows_in rows)
  pub is : settled_volume image settings ≡ Is (state_in rows replayed)

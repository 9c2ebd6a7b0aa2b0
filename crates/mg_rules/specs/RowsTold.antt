-- What the rows that were read say of a volume.
use Rattle.std.specs.Prelude.{◌≡◌, ℕ, List, None, Some}
use Rattle.mg_model.specs.{Layout.globals_block, Replay.block_of, Settings.Settings, Spelling.globals_read}
use Rattle.{mg_model.specs.Volume.{Damaged, Is, replayed_volume, rows_of}, mg_rules.specs.RowsRead.{rows_in, state_in}}
use Rattle.mg_rules.specs.declared.volume_rows.VolumeRows.{VolumeRows}

-- the globals are not spelled
pub record NoCounters (image : List (List ℕ)) : Type 0 where
  pub none : globals_read (block_of image globals_block) ≡ None

-- every row is spelled, and these are the rows
pub record AreTold (rows : VolumeRows) (image : List (List ℕ)) : Type 0 where
  pub are : rows_of image rows.params.frames ≡ Some (rows_in rows)

-- with these settings the rows are spelled, and they spell a state
pub record TellsRows (settings : Settings) (rows : VolumeRows) (image : List (List ℕ)) : Type 0 where
  pub are : rows_of image settings.frames ≡ Some (rows_in rows)
  pub is : replayed_volume settings image ≡ Is (state_in rows image)

-- something is not spelled, or there is a gap between accounts
pub record HasNoState (settings : Settings) (image : List (List ℕ)) : Type 0 where
  pub none : replayed_volume settings image ≡ Damaged

-- What is said of an image that spells the rows.
use Rattle.std.{proofs.Common.{arith, refl, sym, ap, ◌∙◌}, specs.Prelude.{◌≡◌, ℕ, ◌+◌, true, false, List, [], ◌∷◌}}
use Rattle.std.specs.Prelude.{if◌then◌else◌, Some}
use Rattle.{mg_disk.specs.Disk.Image, mg_model.specs.Abbreviations.{account_row_bytes, accounts_spelled, fitting}}
use Rattle.mg_model.specs.{Abbreviations.{object_row_bytes, thread_row_bytes, whole_table}, Layout.globals_block}
use Rattle.mg_model.specs.{Limits.{account_limit, thread_limit, object_limit}, Replay.block_of, Settings.Settings}
use Rattle.mg_model.specs.{Spelling.{account_read, globals_read, object_read, thread_read}, Volume.{Damaged, Is}}
use Rattle.mg_model.specs.{Volume.{replayed_volume, rows_of}, VolumeLemmas.{rows-read, rows_with}}
use Rattle.{mg_model.specs.declared.accounts.AccRow.AccRow, mg_rules.specs.RowsRead.{objects_of, placed_from, rows_in}}
use Rattle.mg_rules.specs.{RowsRead.state_in, RowsTold.{AreTold, HasNoState, TellsRows}, Rules.Decides}
use Rattle.mg_rules.specs.{TableRows.AreLive, TableTold.IsTable, declared.volume_rows.VolumeRows.VolumeRows}

-- accounts in their places
pub accounts-placed : (i : ℕ) (accounts : List AccRow) → accounts_spelled (placed_from i accounts) ≡ accounts
accounts-placed i [] = refl
accounts-placed i (row ∷ rows) = ap (λ rest. row ∷ rest) (accounts-placed (i + 1) rows)

-- what is said of an image that spells them
module _ (rows : VolumeRows) (settings : Settings) (same : rows.params ≡ settings) (image : Image) (told : AreTold rows image) where
  rows_are : rows_of image settings.frames ≡ Some (rows_in rows)
  rows_are = ap (λ (s : Settings). rows_of image s.frames) (sym same) ∙ told.are

  reads_as : replayed_volume settings image ≡ fitting (rows_in rows) (state_in rows image)
  reads_as = grind (arith, rows_are)

  pub told-rows : Decides true rows → TellsRows settings rows image
  told-rows fit = record { are = rows_are; is = reads_as ∙ ap (λ b. if b then Is (state_in rows image) else Damaged) (fit.is image) }

  pub damaged-rows : Decides false rows → HasNoState settings image
  damaged-rows unfit = record { none = reads_as ∙ ap (λ b. if b then Is (state_in rows image) else Damaged) (unfit.is image) }

-- what is said of each table
pub tables-told : (rows : VolumeRows) (image : Image) → globals_read (block_of image globals_block) ≡ Some rows.globals
    → AreLive (λ i. account_read (account_row_bytes image i)) account_limit (placed_from 0 rows.accounts.items)
    → AreLive (λ i. thread_read (thread_row_bytes image i)) thread_limit rows.threads.items
    → AreLive (λ i. object_read (object_row_bytes image i)) object_limit (objects_of rows)
    → IsTable image rows.params.frames rows.table.items → AreTold rows image
tables-told rows image counters accounts threads objects table = record {
  are =
      rows-read image rows.params.frames rows.globals (placed_from 0 rows.accounts.items) rows.threads.items (objects_of rows) (whole_table image rows.params.frames)
      (record { counters_are = counters; accounts_are = accounts.are; threads_are = threads.are; objects_are = objects.are; whole_is = refl; rest = table.rest })
      ∙ ap (λ t. Some (rows_with rows.globals (placed_from 0 rows.accounts.items) rows.threads.items (objects_of rows) t)) table.are;
}

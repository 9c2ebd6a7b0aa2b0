-- The rules that hold between rows, as they are tested.
use Rattle.std.specs.{List.Sorted.IsPermutation, Prelude.{◌≡◌, ℕ, Bool, true, All, List, map}}
use Rattle.{mg_disk.specs.Disk.Image, mg_model.specs.{Objects.{page_behind, page_of}, State.{ObjectRow, ThreadRow}}}
use Rattle.{mg_model.specs.Volume.state_fits, mg_rules.specs.{RowsRead.{rows_in, state_in}, Spans.IsSome}}
use Rattle.mg_rules.specs.{Spans.ordered_from, declared.volume_rows.VolumeRows.VolumeRows}

abbrev pub births_of : List (ℕ × ThreadRow) → List ℕ
births_of rows = map (λ (row : ℕ × ThreadRow). row.1.birth) rows

-- the pages of an object
abbrev pub place_of : ObjectRow → ℕ × ℕ
place_of row = (page_of row, page_behind row)

abbrev pub places_of : List (ℕ × ObjectRow) → List (ℕ × ℕ)
places_of rows = map (λ (row : ℕ × ObjectRow). place_of row.1) rows

-- these are the pages of the objects, in order
pub record AreSpans (spans : List (ℕ × ℕ)) (rows : List (ℕ × ObjectRow)) : Type 0 where
  pub are : IsPermutation (places_of rows) spans
  pub ordered : ordered_from 0 spans ≡ true
  pub each : All IsSome spans

-- this says whether the rows keep the rules between each other, whatever words the frames have
pub record Decides (fit : Bool) (rows : VolumeRows) : Type 0 where
  pub is : (replayed : Image) → state_fits (rows_in rows) (state_in rows replayed) ≡ fit

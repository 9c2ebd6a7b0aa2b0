-- The rows of a volume as they are read and held.
use Rattle.std.specs.Prelude.{◌≡◌, ◌≤◌, ◌<◌, ◌+◌, ℕ, true, List, [], ◌∷◌, All, AllPairs, Option, None, Some, length}
use Rattle.std.specs.Prelude.{vec_capacity}
use Rattle.{mg_disk.specs.Disk.Image, mg_model.specs.{Layout.{super_block, total_blocks}, Limits.account_limit}}
use Rattle.mg_model.specs.{Limits.{thread_limit, object_limit}, Ranges.IsObjectRow, Replay.{block_of, replay}}
use Rattle.mg_model.specs.{Spelling.{Spells, super_read}, State.{ObjectRow, State}, Volume.{Is, Rows, has_open_gate}}
use Rattle.mg_model.specs.{Volume.{rows_of, state_fits, state_spelled, volume}, declared.accounts.AccRow.AccRow}
use Rattle.mg_rules.specs.declared.volume_rows.VolumeRows.{VolumeRows}

-- accounts with their places, from place i on
abbrev pub placed_from : ℕ → List AccRow → List (ℕ × AccRow)
placed_from i [] = []
placed_from i (row ∷ rows) = (i, row) ∷ placed_from (i + 1) rows

-- the rows that are there, each with its place, counted from i
abbrev pub live_from : {R : Type 0} → ℕ → List (Option R) → List (ℕ × R)
live_from i [] = []
live_from i (None ∷ rows) = live_from (i + 1) rows
live_from i (Some row ∷ rows) = (i, row) ∷ live_from (i + 1) rows

-- the objects of these rows
abbrev pub objects_of : VolumeRows → List (ℕ × ObjectRow)
objects_of rows = live_from 0 rows.objects.items

-- the rows that are held
abbrev pub rows_in : VolumeRows → Rows
rows_in rows = record {
  counters = rows.globals;
  accounts = placed_from 0 rows.accounts.items;
  threads = rows.threads.items;
  objects = objects_of rows;
  table = rows.table.items;
}

-- the state that they spell, with the words of these frames
abbrev pub state_in : VolumeRows → Image → State
state_in rows replayed = state_spelled replayed rows.params (rows_in rows)

-- the image is a volume with these settings; it replays to one that spells these rows and no other, and so to their state
pub record IsReadAs (rows : VolumeRows) (image : Image) : Type 0 where
  pub gated : has_open_gate image ≡ true
  pub super : super_read (block_of image super_block) ≡ Spells rows.params
  pub replayed : Image
  pub replay_is : replay image (total_blocks rows.params.frames) ≡ Some replayed
  pub rows_are : rows_of replayed rows.params.frames ≡ Some (rows_in rows)
  pub is : volume image ≡ Is (state_in rows replayed)

-- the rows of a table of n places, in the order of their places
pub record ArePlaced {R : Type 0} (n : ℕ) (rows : List (ℕ × R)) : Type 0 where
  pub few : length rows ≤ n
  pub below : All (λ (row : ℕ × R). row.0 < n) rows
  pub rise : AllPairs (λ (x y : ℕ × R). x.0 < y.0) rows

-- objects in their ranges
abbrev pub AreInRange : List (ℕ × ObjectRow) → Type 0
AreInRange objects = All (λ (o : ℕ × ObjectRow). IsObjectRow o.1) objects

-- rows of their tables, in their ranges, with room for as many as a volume may have, and an entry for each frame
pub record AreHeld (rows : VolumeRows) : Type 0 where
  pub some_frames : 16 ≤ rows.params.frames
  pub few_frames : rows.params.frames ≤ 65536
  pub few_accounts : length rows.accounts.items ≤ account_limit
  pub threads : ArePlaced thread_limit rows.threads.items
  pub places : length rows.objects.items ≤ object_limit
  pub objects : ArePlaced object_limit (objects_of rows)
  pub ranges : AreInRange (objects_of rows)
  pub entries : length rows.table.items ≡ rows.params.frames
  pub room_accounts : account_limit ≤ vec_capacity rows.accounts
  pub room_threads : thread_limit ≤ vec_capacity rows.threads
  pub room_objects : object_limit ≤ vec_capacity rows.objects

-- and they keep the rules that hold between rows, whatever words the frames have
pub record AreKept (rows : VolumeRows) : Type 0 where
  pub held : AreHeld rows
  pub fit : (replayed : Image) → state_fits (rows_in rows) (state_in rows replayed) ≡ true

-- The image that a replayed one of version 1 is copied to, block by block: it spells the lifted state.
use Rattle.std.specs.{List.range_with_len, Prelude.{◌≡◌, ℕ, ◌+◌, ◌-◌, ◌*◌, ◌/◌, ◌%◌, ◌<◌, ◌≤◌, ◌==◌, nat_lt, List}}
use Rattle.std.specs.Prelude.{◌++◌, if◌then◌else◌, length, map, replicate, Some, None}
use Rattle.mg_migrate.specs.{Layout1.{object1_size, table1_block, total1_blocks}, Spelling1.{Spells1, lift_row}}
use Rattle.{mg_migrate.specs.Spelling1.{object1_read, super1_read}, mg_model.specs.Bytes.bytes_at}
use Rattle.mg_model.specs.Layout.{first_object_block, gate_open, globals_block, object_size, super_block, table_block}
use Rattle.mg_model.specs.{Layout.total_blocks, Replay.{block_of, replay}, Settings.Settings, Spelling.Read}
use Rattle.mg_model.specs.{Spelling.{object_bytes, super_bytes}, State.ObjectRow, Volume.{IsOpened, gate_byte}}

-- what a row becomes: a free row is free, and one that spells nothing spells nothing
abbrev pub row_lifted : Read ObjectRow → List ℕ
row_lifted None = replicate object_size 255
row_lifted (Some None) = replicate object_size 0
row_lifted (Some (Some row)) = object_bytes (lift_row row)

unfoldable pub lifted_row : List ℕ → List ℕ
lifted_row bytes = row_lifted (object1_read bytes)

-- row k of a block of objects of version 1
abbrev pub object1_bytes_in : List ℕ → ℕ → List ℕ
object1_bytes_in block k = bytes_at block (object1_size * k) object1_size

-- a block of four objects: of the eight in a block of version 1 the first half or the second
unfoldable pub lifted_objects : List ℕ → ℕ → List ℕ
lifted_objects block half =
    lifted_row (object1_bytes_in block (4 * half))
    ++ (lifted_row (object1_bytes_in block (4 * half + 1))
    ++ (lifted_row (object1_bytes_in block (4 * half + 2)) ++ lifted_row (object1_bytes_in block (4 * half + 3))))

-- how far the frame table and the frames move up
abbrev pub table_shift : ℕ
table_shift = table_block - table1_block

-- Block i of the image for these settings: the gate and the journal are closed, the superblock has the settings, the globals,
-- the accounts and the threads stay, two blocks of objects come of one, and the frame table and the frames move up.
unfoldable pub lifted_block : Settings → List (List ℕ) → ℕ → List ℕ
lifted_block settings image i =
    if i == super_block then super_bytes settings
    else if nat_lt i globals_block then replicate 4096 0
    else if nat_lt i first_object_block then block_of image i
    else if nat_lt i table_block
    then lifted_objects (block_of image (first_object_block + (i - first_object_block) / 2)) ((i - first_object_block) % 2)
    else block_of image (i - table_shift)

unfoldable pub lifted : Settings → List (List ℕ) → List (List ℕ)
lifted settings image = map (lifted_block settings image) (range_with_len 0 (total_blocks settings.frames))

-- An image has a volume of version 1 with these settings, and this is what its journal gives.
pub record IsReplayed1 (settings : Settings) (image replayed : List (List ℕ)) : Type 0 where
  pub opened : IsOpened image
  pub super : super1_read (block_of image super_block) ≡ Spells1 settings
  pub long : total1_blocks settings.frames ≤ length image
  pub is : replay image (total1_blocks settings.frames) ≡ Some replayed

-- An image whose gate is open has the lifted blocks after it, and maybe more blocks.
pub record IsLifted (settings : Settings) (replayed c : List (List ℕ)) : Type 0 where
  pub long : total_blocks settings.frames ≤ length c
  pub opened : gate_byte c ≡ gate_open
  pub blocks : (i : ℕ) → super_block ≤ i → i < total_blocks settings.frames → block_of c i ≡ lifted_block settings replayed i

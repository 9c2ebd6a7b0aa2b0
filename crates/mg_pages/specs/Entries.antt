-- What the blocks of the frame table hold.
use Rattle.std.specs.Prelude.{◌≡◌, ◌+◌, ◌*◌, ◌<◌, ℕ, List, slice_index}
use Rattle.{mg_disk.specs.Disk.{Image, block_at}, mg_model.specs.{Bytes.number_at, Layout.table_block}}

-- these bytes are block k of the frame table
abbrev pub HoldsEntries : List ℕ → ℕ → List ℕ → Type 0
HoldsEntries frames k bytes = (j : ℕ) → j < 512 → number_at bytes (8 * j) ≡ slice_index frames (512 * k + j)

-- this many blocks of the image are the frame table
abbrev pub HoldsTable : List ℕ → ℕ → Image → Type 0
HoldsTable frames n image = (k : ℕ) → k < n → HoldsEntries frames k (block_at image (table_block + k))

-- Where everything lies on a volume of version 1, where that differs from the layout of this version.
use Rattle.std.specs.Prelude.{ℕ, ◌+◌}
use Rattle.mg_model.specs.Layout.{table_blocks}

abbrev pub version1 : ℕ
version1 = 1

-- 4,096 objects from block 1571 on as in this version, 512 bytes each: 8 in a block
abbrev pub object1_size : ℕ
object1_size = 512

-- the frame table, and the frames after it
abbrev pub table1_block : ℕ
table1_block = 2083

abbrev pub first_frame1 : ℕ → ℕ
first_frame1 frames = table1_block + table_blocks frames

-- how many blocks a volume with this number of frames needs
abbrev pub total1_blocks : ℕ → ℕ
total1_blocks frames = first_frame1 frames + frames

-- an object's columns after its words, which are those of this version: sixteen passwords, their rights in a byte each, and
-- the entries; zeros from `object1_end` on
abbrev pub object1_rights : ℕ
object1_rights = 208

abbrev pub object1_entries : ℕ
object1_entries = 224

abbrev pub object1_end : ℕ
object1_end = 352

-- how many password rows an object may have
abbrev pub password1_limit : ℕ
password1_limit = 16

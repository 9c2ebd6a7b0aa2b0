-- Where everything lies on a volume, in blocks of 4096 bytes. `src/layout.rt` has the numbers: the gate, the superblock, eight segments
-- of the journal, the globals, the accounts, the threads, the objects and the frame table.
use Rattle.std.specs.Prelude.{ℕ, ◌+◌, ◌*◌, ◌/◌, List, codes}
use Rattle.mg_model.specs.declared.layout.TheConstants.{GATE_BLOCK, SUPER_BLOCK, VERSION, SEGMENT_COUNT, BODY_LIMIT}
use Rattle.mg_model.specs.declared.layout.TheConstants.{SEGMENT_SIZE, FIRST_SEGMENT, GLOBALS_BLOCK, ACCOUNT_SIZE}
use Rattle.mg_model.specs.declared.layout.TheConstants.{OBJECT_SIZE, FIRST_ACCOUNT_BLOCK, FIRST_THREAD_BLOCK}
use Rattle.mg_model.specs.declared.layout.TheConstants.{FIRST_OBJECT_BLOCK, TABLE_BLOCK}

abbrev pub block_size : ℕ
block_size = 4096

-- byte 0 of an open gate
abbrev pub gate_open : ℕ
gate_open = 0xA5

-- the eight bytes that the superblock begins with
abbrev pub magic : List ℕ
magic = codes "MUNGIVOL"

-- a segment of the journal: its gate, its index, and 160 bodies
abbrev pub segment_gate : ℕ → ℕ
segment_gate s = FIRST_SEGMENT + SEGMENT_SIZE * s

abbrev pub segment_index : ℕ → ℕ
segment_index s = FIRST_SEGMENT + SEGMENT_SIZE * s + 1

abbrev pub segment_body : ℕ → ℕ → ℕ
segment_body s j = FIRST_SEGMENT + SEGMENT_SIZE * s + 2 + j

-- the frame table has 8 bytes a frame
abbrev pub table_blocks : ℕ → ℕ
table_blocks frames = (frames + 511) / 512

-- the frames after it
abbrev pub first_frame : ℕ → ℕ
first_frame frames = TABLE_BLOCK + table_blocks frames

-- how many blocks a volume with this number of frames needs
abbrev pub total_blocks : ℕ → ℕ
total_blocks frames = first_frame frames + frames

-- the numbers of `src/layout.rt` by name, for the crates above
abbrev pub gate_block : ℕ
gate_block = GATE_BLOCK

abbrev pub super_block : ℕ
super_block = SUPER_BLOCK

abbrev pub version : ℕ
version = VERSION

abbrev pub segment_count : ℕ
segment_count = SEGMENT_COUNT

abbrev pub body_limit : ℕ
body_limit = BODY_LIMIT

abbrev pub segment_size : ℕ
segment_size = SEGMENT_SIZE

abbrev pub globals_block : ℕ
globals_block = GLOBALS_BLOCK

abbrev pub account_size : ℕ
account_size = ACCOUNT_SIZE

abbrev pub object_size : ℕ
object_size = OBJECT_SIZE

abbrev pub first_account_block : ℕ
first_account_block = FIRST_ACCOUNT_BLOCK

abbrev pub first_thread_block : ℕ
first_thread_block = FIRST_THREAD_BLOCK

abbrev pub first_object_block : ℕ
first_object_block = FIRST_OBJECT_BLOCK

abbrev pub table_block : ℕ
table_block = TABLE_BLOCK

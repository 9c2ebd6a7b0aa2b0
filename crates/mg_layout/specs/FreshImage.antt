-- The blocks of a fresh volume.
use Rattle.std.specs.Prelude.{◌≡◌, ℕ, ◌%◌, ◌≤◌, ◌==◌, ◌&&◌, ◌||◌, nat_le, nat_lt, Bool, IsTrue, List, [], ◌∷◌, flat_map}
use Rattle.std.specs.Prelude.{if◌then◌else◌, length, map, replicate, slice_index}
use Rattle.mg_model.specs.{Bytes.{padded_to, words_bytes}, Fresh.fresh, Layout.{first_account_block, first_frame}}
use Rattle.mg_model.specs.Layout.{first_object_block, first_thread_block, gate_block, gate_open, globals_block}
use Rattle.mg_model.specs.{Layout.{segment_gate, segment_size, super_block, table_block, total_blocks}, Objects.page_of}
use Rattle.mg_model.specs.{Replay.block_of, Settings.Settings, Spelling.{account_bytes, globals_bytes, object_bytes}}
use Rattle.mg_model.specs.{Spelling.{super_bytes, thread_bytes}, State.{Object, State, Thread}}

-- the first block of each part that a state with few rows fills: its rows, from row 0 on
abbrev pub gate_bytes : List ℕ
gate_bytes = padded_to 4096 (gate_open ∷ [])

abbrev pub accounts_bytes : State → List ℕ
accounts_bytes state = padded_to 4096 (flat_map account_bytes state.accounts)

abbrev pub threads_bytes : State → List ℕ
threads_bytes state = padded_to 4096 (flat_map (λ (thread : Thread). thread_bytes thread.row) state.threads)

abbrev pub objects_bytes : State → List ℕ
objects_bytes state = padded_to 4096 (flat_map (λ (object : Object). object_bytes object.row) state.objects)

-- the frame table names the first page of each object, and the frame has its words: right if each object has one page
abbrev pub table_bytes : State → List ℕ
table_bytes state = padded_to 4096 (words_bytes (map (λ (object : Object). page_of object.row) state.objects))

abbrev pub frame_bytes : State → List ℕ
frame_bytes state = padded_to 4096 (flat_map (λ (object : Object). words_bytes object.words) state.objects)

-- block i of a volume in this state, if the state has one thread, one object of one page, and few accounts
unfoldable pub block_bytes : Settings → State → ℕ → List ℕ
block_bytes settings state i =
    if i == gate_block then gate_bytes
    else if i == super_block then super_bytes settings
    else if i == globals_block then globals_bytes state.counters
    else if i == first_account_block then accounts_bytes state
    else if i == first_thread_block then threads_bytes state
    else if i == first_object_block then objects_bytes state
    else if i == table_block then table_bytes state
    else if i == first_frame settings.frames then frame_bytes state
    else replicate 4096 0

-- block i of a fresh volume
abbrev pub fresh_bytes : Settings → ℕ → List ℕ
fresh_bytes settings i = block_bytes settings (fresh settings) i

-- the blocks that are written when a volume is made: the gate and the superblock, the gates of the segments, and everything
-- from the globals to frame 0
abbrev pub is_written : ℕ → ℕ → Bool
is_written frames i = nat_le i super_block || (i % segment_size == segment_gate 0 && nat_lt i globals_block) || (nat_le globals_block i && nat_le i (first_frame frames))

-- An image of a fresh volume. It may have more blocks. The segments' indexes and bodies, the other frames, and the gate's
-- bytes after the first may be anything.
pub record IsFreshImage (settings : Settings) (image : List (List ℕ)) : Type 0 where
  pub long : total_blocks settings.frames ≤ length image
  pub opened : slice_index (block_of image gate_block) 0 ≡ gate_open
  pub blocks : (i : ℕ) → super_block ≤ i → IsTrue (is_written settings.frames i) → block_of image i ≡ fresh_bytes settings i

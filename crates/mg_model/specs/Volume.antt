-- What an image spells: no volume, an older one, a damaged one, or a state of the machine.
use Rattle.std.specs.{List.{list_all, list_any, range_with_len, cons_option}, Option.option_map_or, Prelude.{◌≡◌, ◌≤◌}}
use Rattle.std.specs.Prelude.{ℕ, zero, suc, ◌+◌, ◌*◌, ◌/◌, ◌%◌, ◌==◌, ◌&&◌, nat_le, nat_lt, Bool, true, false, not}
use Rattle.std.specs.Prelude.{List, [], ◌∷◌, drop, filter, flat_map, if◌then◌else◌, length, map, position, replicate}
use Rattle.std.specs.Prelude.{slice_index, sum_by, take, Option, Some, None, option_map}
use Rattle.mg_model.specs.{Bank.used, Bytes.{are_zeros, block_words, bytes_at}, Layout.{first_frame, gate_open}}
use Rattle.mg_model.specs.{Layout.{table_blocks, total_blocks}, Limits.debt_limit, Objects.{page_behind, page_of}}
use Rattle.mg_model.specs.{Objects.with_object, Replay.{block_of, replay}, Settings.Settings, Spelling.Read}
use Rattle.mg_model.specs.Spelling.{account_read, globals_read, object_read, super_read, NotSuper, OldSuper, BadSuper}
use Rattle.mg_model.specs.{Spelling.{Spells, SuperRead, thread_read}, State.{Counters, Object, ObjectRow, State}}
use Rattle.mg_model.specs.{State.{Thread, ThreadRow}, Tests.all_distinct, Words.and_then}
use Rattle.mg_model.specs.declared.{accounts.AccRow.AccRow, layout.TheConstants.ACCOUNT_SIZE as account_size}
use Rattle.mg_model.specs.declared.layout.TheConstants.{FIRST_ACCOUNT_BLOCK as first_account_block}
use Rattle.mg_model.specs.declared.layout.TheConstants.{FIRST_OBJECT_BLOCK as first_object_block}
use Rattle.mg_model.specs.declared.layout.TheConstants.{FIRST_THREAD_BLOCK as first_thread_block}
use Rattle.mg_model.specs.declared.layout.TheConstants.{GATE_BLOCK as gate_block, GLOBALS_BLOCK as globals_block}
use Rattle.mg_model.specs.declared.layout.TheConstants.{OBJECT_SIZE as object_size, SUPER_BLOCK as super_block}
use Rattle.mg_model.specs.declared.layout.TheConstants.{TABLE_BLOCK as table_block}
use Rattle.mg_model.specs.declared.limits.TheConstants.{ACCOUNT_LIMIT as account_limit, THREAD_LIMIT as thread_limit}
use Rattle.mg_model.specs.declared.limits.TheConstants.{OBJECT_LIMIT as object_limit}

pub data VolumeRead : Type 0 where
  NotVolume : VolumeRead
  OldVolume : VolumeRead
  Damaged : VolumeRead
  Is : State → VolumeRead

-- row i of a table whose rows of this size begin at a block
abbrev pub row_bytes : List (List ℕ) → ℕ → ℕ → ℕ → List ℕ
row_bytes image first size i = bytes_at (block_of image (first + i / (4096 / size))) (size * (i % (4096 / size))) size

-- what is read at place i, before the rows after it: a live row with its place, and a free one not at all
abbrev pub row_before : {R : Type 0} → ℕ → Option R → List (ℕ × R) → List (ℕ × R)
row_before i row rows = cons_option (option_map (λ live. (i, live)) row) rows

-- The live rows of n places from place i on, each with its place. None if a place spells nothing.
abbrev pub live_rows : {R : Type 0} → (ℕ → Read R) → ℕ → ℕ → Option (List (ℕ × R))
live_rows read i zero = Some []
live_rows read i (suc n) =
    and_then (read i) (λ row. and_then (live_rows read (i + 1) n) (λ rows. Some (row_before i row rows)))

-- the rows of an image, which is replayed already
pub record Rows : Type 0 where
  pub counters : Counters
  pub accounts : List (ℕ × AccRow)
  pub threads : List (ℕ × ThreadRow)
  pub objects : List (ℕ × ObjectRow)
  pub table : List ℕ

-- Every row, the globals, and the bytes of the frame table past its last word are spelled; a thread's row is a block. A word of the frame
-- table is the page that its frame holds, or 0.
abbrev pub rows_of : List (List ℕ) → ℕ → Option Rows
rows_of image frames =
    let table = flat_map (λ k. block_words (block_of image k)) (range_with_len table_block (table_blocks frames)) in
    and_then (globals_read (block_of image globals_block)) (λ counters.
    and_then (live_rows (λ i. account_read (row_bytes image first_account_block account_size i)) 0 account_limit) (λ accounts.
    and_then (live_rows (λ i. thread_read (block_of image (first_thread_block + i))) 0 thread_limit) (λ threads.
    and_then (live_rows (λ i. object_read (row_bytes image first_object_block object_size i)) 0 object_limit) (λ objects.
    if are_zeros (drop frames table)
    then Some record { counters = counters; accounts = accounts; threads = threads; objects = objects; table = take frames table }
    else None))))

-- the words of a page: those of the frame that holds it, or zeros
abbrev pub page_words : List (List ℕ) → ℕ → List ℕ → ℕ → List ℕ
page_words image frames table page =
    option_map_or (λ frame. block_words (block_of image (first_frame frames + frame)))
    (position (λ entry. entry == page) table) (replicate 512 0)

-- an object: its row, and the words of its pages
abbrev pub object_spelled : List (List ℕ) → ℕ → List ℕ → ObjectRow → Object
object_spelled image frames table row =
    record { row = row; words = flat_map (λ k. page_words image frames table k) (range_with_len (page_of row) row.pages) }

-- the objects in the order of their bases, whatever rows they have
abbrev pub objects_spelled : List (List ℕ) → ℕ → List ℕ → List (ℕ × ObjectRow) → List Object
objects_spelled image frames table [] = []
objects_spelled image frames table ((place, row) ∷ rows) =
    with_object (object_spelled image frames table row) (objects_spelled image frames table rows)

-- the state that these rows and the frames spell
abbrev pub state_spelled : List (List ℕ) → Settings → Rows → State
state_spelled image settings rows = record {
  settings = settings;
  counters = rows.counters;
  objects = objects_spelled image settings.frames rows.table rows.objects;
  accounts = map (λ (r : ℕ × AccRow). r.1) rows.accounts;
  threads = map (λ (r : ℕ × ThreadRow). record { number = r.0 + 1; row = r.1 }) rows.threads;
}

-- live accounts are without a gap from the first row on
abbrev pub has_no_gap : ℕ → List (ℕ × AccRow) → Bool
has_no_gap i [] = true
has_no_gap i ((place, row) ∷ rows) = place == i && has_no_gap (i + 1) rows

-- there is a treasury, the balances sum to the credits, and no account owes more than it may by the period
abbrev pub accounts_fit : ℕ → ℕ → List AccRow → Bool
accounts_fit credits period accounts =
    nat_le 1 (length accounts)
    && sum_by (λ (row : AccRow). row.balance) accounts == credits
    && list_all (λ (row : AccRow). nat_le row.owed (debt_limit period)) accounts

-- no object reaches past the first page of the next; they are in the order of their bases
abbrev pub are_apart : List Object → Bool
are_apart (object ∷ next ∷ objects) = nat_le (page_behind object.row) (page_of next.row) && are_apart (next ∷ objects)
are_apart _ = true

abbrev pub objects_fit : ℕ → ℕ → List Object → Bool
objects_fit frames accounts objects =
    are_apart objects
    && list_all (λ (object : Object). nat_le object.row.account accounts) objects
    && nat_le (used objects) frames

-- thread 1 lives, was born first and was created by none
abbrev pub begins_with_first : List Thread → Bool
begins_with_first [] = false
begins_with_first (thread ∷ threads) = thread.number == 1 && thread.row.birth == 1 && thread.row.creator == 0

abbrev pub threads_fit : ℕ → List Thread → Bool
threads_fit births threads =
    begins_with_first threads
    && all_distinct (map (λ (thread : Thread). thread.row.birth) threads)
    && list_all (λ (thread : Thread). nat_le thread.row.birth births) threads

-- the pages in the frame table
abbrev pub bound_pages : List ℕ → List ℕ
bound_pages table = filter (λ page. not (page == 0)) table

-- each of them lies in an object, and none is there twice
abbrev pub table_fits : List Object → List ℕ → Bool
table_fits objects table =
    list_all (λ page. list_any (λ (object : Object). nat_le (page_of object.row) page && nat_lt page (page_behind object.row)) objects)
    (bound_pages table)
    && all_distinct (bound_pages table)

abbrev pub state_fits : Rows → State → Bool
state_fits rows state =
    has_no_gap 0 rows.accounts
    && accounts_fit state.settings.credits state.counters.period state.accounts
    && objects_fit state.settings.frames (length state.accounts) state.objects
    && threads_fit state.counters.births state.threads
    && table_fits state.objects rows.table

-- what a replayed image spells under these settings
abbrev pub replayed_volume : Settings → List (List ℕ) → VolumeRead
replayed_volume settings image =
    option_map_or (λ rows. let state = state_spelled image settings rows in if state_fits rows state then Is state else Damaged)
    (rows_of image settings.frames) Damaged

-- an image has at least as many blocks as its frames need, and its journal can be replayed
abbrev pub settled_volume : List (List ℕ) → Settings → VolumeRead
settled_volume image settings =
    if nat_le (total_blocks settings.frames) (length image)
    then option_map_or (λ replayed. replayed_volume settings replayed) (replay image (total_blocks settings.frames)) Damaged
    else Damaged

abbrev pub volume_behind : List (List ℕ) → SuperRead → VolumeRead
volume_behind image NotSuper = NotVolume
volume_behind image OldSuper = OldVolume
volume_behind image BadSuper = Damaged
volume_behind image (Spells settings) = settled_volume image settings

-- an image has the gate's block and the block after it, and its gate is open: byte 0 of the gate says so
abbrev pub has_open_gate : List (List ℕ) → Bool
has_open_gate image = nat_le 2 (length image) && slice_index (block_of image gate_block) 0 == gate_open

-- the same as facts
abbrev pub gate_byte : List (List ℕ) → ℕ
gate_byte image = slice_index (block_of image gate_block) 0

pub record IsOpened (image : List (List ℕ)) : Type 0 where
  pub long : 2 ≤ length image
  pub gate : gate_byte image ≡ gate_open

unfoldable pub volume : List (List ℕ) → VolumeRead
volume image = if has_open_gate image then volume_behind image (super_read (block_of image super_block)) else NotVolume

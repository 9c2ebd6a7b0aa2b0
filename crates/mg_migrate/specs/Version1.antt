-- What an image spells as a volume of version 1, and the state of this version that comes of it.
use Rattle.std.specs.{Option.option_map_or, Prelude.{ℕ, zero, suc, ◌+◌, ◌==◌, nat_le, List, [], ◌∷◌, ◌++◌, drop}}
use Rattle.std.specs.Prelude.{if◌then◌else◌, length, map, position, replicate, take, Option, Some, None}
use Rattle.mg_migrate.specs.{Layout1.{first_frame1, object1_size, table1_block, total1_blocks}, Spelling1.BadSuper1}
use Rattle.mg_migrate.specs.Spelling1.{NewSuper1, NotSuper1, OldSuper1, Spells1, Super1Read, lift_row, object1_read}
use Rattle.{mg_migrate.specs.Spelling1.super1_read, mg_model.specs.Abbreviations.{fitting, table_entries}}
use Rattle.mg_model.specs.{Bytes.{are_zeros, block_words}, Layout.{account_size, first_account_block}}
use Rattle.mg_model.specs.Layout.{first_object_block, first_thread_block, globals_block, super_block, table_blocks}
use Rattle.mg_model.specs.{Limits.{account_limit, thread_limit, object_limit}, Objects.{page_of, with_object}}
use Rattle.mg_model.specs.{Replay.{block_of, replay}, Settings.Settings, Spelling.{account_read, globals_read}}
use Rattle.mg_model.specs.{Spelling.thread_read, State.{Object, ObjectRow, State, ThreadRow}, Volume.{Damaged, Is}}
use Rattle.mg_model.specs.{Volume.{Rows, VolumeRead, has_open_gate, live_rows, row_bytes}, Words.and_then}
use Rattle.mg_model.specs.declared.accounts.AccRow.{AccRow}

-- What an image spells to who looks for version 1: no volume, an older one, a newer one, a damaged one, or a state.
pub data Volume1Read : Type 0 where
  NotVolume1 : Volume1Read
  OldVolume1 : Volume1Read
  NewVolume1 : Volume1Read
  Damaged1 : Volume1Read
  Is1 : State → Volume1Read

abbrev pub object1_row_bytes : List (List ℕ) → ℕ → List ℕ
object1_row_bytes image i = row_bytes image first_object_block object1_size i

abbrev pub whole_table1 : List (List ℕ) → ℕ → List ℕ
whole_table1 image frames = table_entries image table1_block (table_blocks frames)

-- the rows of an image, which is replayed already
abbrev pub rows1_of : List (List ℕ) → ℕ → Option Rows
rows1_of image frames =
    and_then (globals_read (block_of image globals_block)) (λ counters.
    and_then (live_rows (λ i. account_read (row_bytes image first_account_block account_size i)) 0 account_limit) (λ accounts.
    and_then (live_rows (λ i. thread_read (block_of image (first_thread_block + i))) 0 thread_limit) (λ threads.
    and_then (live_rows (λ i. object1_read (object1_row_bytes image i)) 0 object_limit) (λ objects.
    if are_zeros (drop frames (whole_table1 image frames))
    then Some record {
      counters = counters;
      accounts = accounts;
      threads = threads;
      objects = objects;
      table = take frames (whole_table1 image frames);
    }
    else None))))

-- the words of a page: those of the frame that holds it, or zeros
abbrev pub page1_words : List (List ℕ) → ℕ → List ℕ → ℕ → List ℕ
page1_words image frames table page =
    option_map_or (λ frame. block_words (block_of image (first_frame1 frames + frame)))
    (position (λ entry. entry == page) table) (replicate 512 0)

abbrev pub pages1_words : List (List ℕ) → ℕ → List ℕ → ℕ → ℕ → List ℕ
pages1_words image frames table page zero = []
pages1_words image frames table page (suc n) = page1_words image frames table page ++ pages1_words image frames table (page + 1) n

abbrev pub object1_spelled : List (List ℕ) → ℕ → List ℕ → ObjectRow → Object
object1_spelled image frames table row = record { row = row; words = pages1_words image frames table (page_of row) row.pages }

abbrev pub objects1_spelled : List (List ℕ) → ℕ → List ℕ → List (ℕ × ObjectRow) → List Object
objects1_spelled image frames table [] = []
objects1_spelled image frames table ((place, row) ∷ rows) =
    with_object (object1_spelled image frames table row) (objects1_spelled image frames table rows)

abbrev pub state1_spelled : List (List ℕ) → Settings → Rows → State
state1_spelled image settings rows = record {
  settings = settings;
  counters = rows.counters;
  objects = objects1_spelled image settings.frames rows.table rows.objects;
  accounts = map (λ (r : ℕ × AccRow). r.1) rows.accounts;
  threads = map (λ (r : ℕ × ThreadRow). record { number = r.0 + 1; row = r.1 }) rows.threads;
}

-- what a replayed image spells under these settings: damage or a state
abbrev pub replayed1_volume : Settings → List (List ℕ) → VolumeRead
replayed1_volume settings image =
    option_map_or (λ rows. fitting rows (state1_spelled image settings rows)) (rows1_of image settings.frames) Damaged

-- an image has at least as many blocks as its frames need, and its journal can be replayed
abbrev pub settled1_volume : List (List ℕ) → Settings → VolumeRead
settled1_volume image settings =
    if nat_le (total1_blocks settings.frames) (length image)
    then option_map_or (λ replayed. replayed1_volume settings replayed) (replay image (total1_blocks settings.frames)) Damaged
    else Damaged

abbrev pub as_volume1 : VolumeRead → Volume1Read
as_volume1 (Is state) = Is1 state
as_volume1 _ = Damaged1

abbrev pub volume1_behind : List (List ℕ) → Super1Read → Volume1Read
volume1_behind image NotSuper1 = NotVolume1
volume1_behind image OldSuper1 = OldVolume1
volume1_behind image NewSuper1 = NewVolume1
volume1_behind image BadSuper1 = Damaged1
volume1_behind image (Spells1 settings) = as_volume1 (settled1_volume image settings)

unfoldable pub volume1 : List (List ℕ) → Volume1Read
volume1 image = if has_open_gate image then volume1_behind image (super1_read (block_of image super_block)) else NotVolume1

-- the state with passwords that never end, and all else as it was
abbrev pub lift_object : Object → Object
lift_object object = record object { row = lift_row object.row }

abbrev pub lift : State → State
lift state = record state { objects = map lift_object state.objects }

abbrev pub lift_volume : VolumeRead → VolumeRead
lift_volume (Is state) = Is (lift state)
lift_volume other = other

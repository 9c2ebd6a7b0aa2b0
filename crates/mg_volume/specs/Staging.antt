-- What may be staged of a volume, what that makes of its rows, and which blocks wait for a commit.
use Rattle.std.specs.{List.{list_all, list_any}, Option.option_map_or, Prelude.{◌≡◌, ◌+◌, ◌-◌, ◌*◌, ◌/◌, ◌≤◌, ◌<◌}}
use Rattle.std.specs.Prelude.{◌||◌, nat_le, nat_lt, ℕ, zero, suc, Bool, true, false, List, [], ◌∷◌, Some, if◌then◌else◌}
use Rattle.std.specs.Prelude.{find, length, map, replicate, sum_by, IsSomeAnd, Option, None, filter, not, ◌==◌}
use Rattle.mg_model.specs.{Layout.{first_object_block, first_thread_block, globals_block}, Limits.object_limit}
use Rattle.mg_model.specs.{Objects.{page_behind, page_of, with_object, with_row, without_object}, State.Object}
use Rattle.mg_model.specs.{State.{ObjectRow, Thread, ThreadRow}, Threads.with_new_thread}
use Rattle.mg_volume.specs.{Held.VolumeHeld, Meaning.{objects_in, threads_in}}
use Rattle.mg_pages.specs.Meaning as pages

-- the threads with this row for thread t, or without that thread
abbrev pub threads_with : ℕ → Option ThreadRow → List Thread → List Thread
threads_with t None threads = filter (λ (thread : Thread). not (thread.number == t)) threads
threads_with t (Some row) threads =
    if list_any (λ (thread : Thread). thread.number == t) threads
    then map (λ (thread : Thread). if thread.number == t then record thread { row = row } else thread) threads
    else with_new_thread (record { number = t; row = row }) threads

-- whether thread t lives
abbrev pub lives : VolumeHeld → ℕ → Bool
lives v t = list_any (λ (thread : Thread). thread.number == t) (threads_in v)

-- whether there is an object with this base
abbrev pub has_base : ℕ → List ObjectRow → Bool
has_base base rows = list_any (λ (row : ObjectRow). row.base == base) rows

-- the lowest of this many places, from this one on, that no row has; the place after them if there is none
abbrev pub free_from : List (ℕ × ObjectRow) → ℕ → ℕ → ℕ
free_from objects place zero = place
free_from objects place (suc n) = if list_any (λ (o : ℕ × ObjectRow). o.0 == place) objects then free_from objects (place + 1) n else place

abbrev pub free_place : List (ℕ × ObjectRow) → ℕ
free_place objects = free_from objects 0 object_limit

-- the place of the row of the object with this base, or of the row that it will have if it is not there
abbrev pub place_for : ℕ → List (ℕ × ObjectRow) → ℕ
place_for base objects = option_map_or (λ (o : ℕ × ObjectRow). o.0) (find (λ (o : ℕ × ObjectRow). o.1.base == base) objects) (free_place objects)

-- whether the block of the counters waits for a commit, that of thread t, from 1 on, and that of an object's row
unfoldable pub are_counters_staged : VolumeHeld → Bool
are_counters_staged v = pages.is_staged v.pages globals_block

unfoldable pub is_thread_staged : VolumeHeld → ℕ → Bool
is_thread_staged v t = pages.is_staged v.pages (first_thread_block + t - 1)

unfoldable pub is_object_staged : VolumeHeld → ℕ → Bool
is_object_staged v base = pages.is_staged v.pages (first_object_block + place_for base v.objects / 4)

-- the counters and the threads that were staged still are
pub record StillStaged (old new : VolumeHeld) : Type 0 where
  pub counters : are_counters_staged old ≡ true → are_counters_staged new ≡ true
  pub thread : (t : ℕ) → is_thread_staged old t ≡ true → is_thread_staged new t ≡ true

-- and so are the objects that were, if they are there still
abbrev pub ObjectsStillStaged : VolumeHeld → VolumeHeld → Type 0
ObjectsStillStaged old new = (base : ℕ) → has_base base (objects_in old) ≡ true → has_base base (objects_in new) ≡ true → is_object_staged old base ≡ true → is_object_staged new base ≡ true

-- whether an object meets none of these
abbrev pub is_apart_from : List ObjectRow → ObjectRow → Bool
is_apart_from rows row = list_all (λ (other : ObjectRow). nat_le (page_behind row) (page_of other) || nat_le (page_behind other) (page_of row)) rows

-- an object may join these: it meets none of them, there is a row for it, and there are frames for its pages
pub record MayJoin (rows : List ObjectRow) (frames : ℕ) (row : ObjectRow) : Type 0 where
  pub apart : is_apart_from rows row ≡ true
  pub few : length rows < object_limit
  pub fit : sum_by (λ (other : ObjectRow). other.pages) rows + row.pages ≤ frames

-- one of them may have another row: as many pages from the same base on
abbrev pub MayChange : List ObjectRow → ObjectRow → Type 0
MayChange rows row = IsSomeAnd (find (λ (old : ObjectRow). old.base == row.base) rows) (λ old. old.pages ≡ row.pages)

-- a row before the first with a larger base
abbrev pub with_new_row : ObjectRow → List ObjectRow → List ObjectRow
with_new_row new [] = new ∷ []
with_new_row new (row ∷ rows) = if nat_lt new.base row.base then new ∷ row ∷ rows else row ∷ with_new_row new rows

-- the rows with this one in place of the one with its base
abbrev pub with_other_row : ObjectRow → List ObjectRow → List ObjectRow
with_other_row new rows = map (λ (row : ObjectRow). if row.base == new.base then new else row) rows

-- the rows without the one with a base
abbrev pub without_row : ℕ → List ObjectRow → List ObjectRow
without_row base rows = filter (λ (row : ObjectRow). not (row.base == base)) rows

-- an object whose words are all 0
abbrev pub blank : ObjectRow → Object
blank row = record { row = row; words = replicate (512 * row.pages) 0 }

-- the rows with this one for the object with a base, there or new, or without that object
abbrev pub rows_with : ℕ → Option ObjectRow → List ObjectRow → List ObjectRow
rows_with base None rows = without_row base rows
rows_with base (Some row) rows = if has_base base rows then with_other_row row rows else with_new_row row rows

-- and the objects: the words of one that is there stay, and those of a new one are all 0
abbrev pub objects_with : ℕ → Option ObjectRow → List Object → List Object
objects_with base None objects = without_object base objects
objects_with base (Some row) objects = if has_base base (map (λ (object : Object). object.row) objects) then with_row base (λ old. row) objects else with_object (blank row) objects

-- what may be staged for the object with a base: another row if it is there, a first one if it is not, or that it goes
abbrev pub MayStage : List ObjectRow → ℕ → ℕ → Option ObjectRow → Type 0
MayStage rows frames base None = has_base base rows ≡ true
MayStage rows frames base (Some row) = (row.base ≡ base) × (has_base base rows ≡ true → MayChange rows row) × (has_base base rows ≡ false → MayJoin rows frames row)

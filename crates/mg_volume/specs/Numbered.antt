-- The rows of threads with their numbers, as they are held, and how they change.
use Rattle.std.specs.{List.list_any, Option.{ForSome, option_map_or}, Prelude.{◌≡◌, ◌+◌, ◌≤◌, ◌<◌, ◌==◌, MatchOption}}
use Rattle.std.specs.Prelude.{nat_lt, ℕ, Bool, false, not, All, List, [], ◌∷◌, filter, if◌then◌else◌, length, map}
use Rattle.std.specs.Prelude.{is_some, Option, Some, None}
use Rattle.mg_model.specs.{Abbreviations.free_number, Ranges.IsThreadRow, State.{Thread, ThreadRow}, Turn.is_ready}

-- before the first larger number
abbrev pub into_number : ℕ × ThreadRow → List (ℕ × ThreadRow) → List (ℕ × ThreadRow)
into_number new [] = new ∷ []
into_number new (t ∷ rows) = if nat_lt new.0 t.0 then new ∷ t ∷ rows else t ∷ into_number new rows

abbrev pub has_number : ℕ → List (ℕ × ThreadRow) → Bool
has_number t rows = list_any (λ (x : ℕ × ThreadRow). x.0 == t) rows

-- the rows with this one for thread t, or without that thread
abbrev pub rows_with : ℕ → Option ThreadRow → List (ℕ × ThreadRow) → List (ℕ × ThreadRow)
rows_with t None rows = filter (λ (x : ℕ × ThreadRow). not (x.0 == t)) rows
rows_with t (Some row) rows = if has_number t rows then map (λ (x : ℕ × ThreadRow). if x.0 == t then (x.0, row) else x) rows else into_number (t, row) rows

-- the numbers of threads, one above the places of their rows
abbrev pub numbered : List (ℕ × ThreadRow) → List (ℕ × ThreadRow)
numbered rows = map (λ (t : ℕ × ThreadRow). (t.0 + 1, t.1)) rows

-- the threads that have these numbers and rows
abbrev pub threads_of : List (ℕ × ThreadRow) → List Thread
threads_of rows = map (λ (t : ℕ × ThreadRow). record { number = t.0; row = t.1 }) rows

-- whether a place has a thread, and whether it has one that is Ready
abbrev pub is_taken : Option ThreadRow → Bool
is_taken row = is_some row

abbrev pub has_turn : Option ThreadRow → Bool
has_turn row = option_map_or (λ (r : ThreadRow). is_ready r.state) row false

-- and that as a byte
abbrev pub turn_mark : Option ThreadRow → ℕ
turn_mark row = if has_turn row then 1 else 0

-- a place for each thread that a volume may have, and rows that keep their ranges
pub record AreByNumber (rows : List (Option ThreadRow)) : Type 0 where
  pub long : length rows ≡ 256
  pub ranges : All (λ (row : Option ThreadRow). ForSome row IsThreadRow) rows

-- and what is said of each place apart
pub record AreListed (rows : List (Option ThreadRow)) (taken : List Bool) (ready : List ℕ) : Type 0 where
  pub by_number : AreByNumber rows
  pub taken_are : taken ≡ map is_taken rows
  pub ready_are : ready ≡ map turn_mark rows

-- the lowest number, from 1 on, that none of these threads has: there is one if there are fewer than 256
abbrev pub IsFreeNumber : List (ℕ × ThreadRow) → Option ℕ → Type 0
IsFreeNumber rows found = MatchOption found (256 ≤ length rows) (λ n. (length rows < 256) × (n ≡ free_number (threads_of rows)) × (has_number n rows ≡ false))

-- The objects of a volume as a list: each row with its place in the table, in the order of the bases.
use Rattle.std.specs.{List.{AllPairs, list_any}, Prelude.{◌≡◌, ◌≢◌, ◌+◌, ◌≤◌, ◌<◌, ◌==◌, ◌⊎◌, ℕ, nat_lt, false, true}}
use Rattle.std.specs.Prelude.{All, List, [], ◌∷◌, Option, None, Some, if◌then◌else◌, length, map, slice_index}
use Rattle.std.specs.Prelude.{slice_index_or}
use Rattle.mg_model.specs.{Objects.{page_behind, page_of}, Ranges.IsObjectRow, State.ObjectRow}

-- the rows that are there, each with its place, counted from i
abbrev pub live_from : {R : Type 0} → ℕ → List (Option R) → List (ℕ × R)
live_from i [] = []
live_from i (None ∷ rows) = live_from (i + 1) rows
live_from i (Some row ∷ rows) = (i, row) ∷ live_from (i + 1) rows

-- a row before the first with a larger base
abbrev pub into_place : ℕ × ObjectRow → List (ℕ × ObjectRow) → List (ℕ × ObjectRow)
into_place new [] = new ∷ []
into_place new (o ∷ objects) = if nat_lt new.1.base o.1.base then new ∷ o ∷ objects else o ∷ into_place new objects

abbrev pub by_base : List (ℕ × ObjectRow) → List (ℕ × ObjectRow)
by_base [] = []
by_base (o ∷ objects) = into_place o (by_base objects)

-- the objects of a table
abbrev pub objects_in : List (Option ObjectRow) → List (ℕ × ObjectRow)
objects_in rows = by_base (live_from 0 rows)

-- no page of the first is one of the second or after it
abbrev pub IsBefore : ℕ × ObjectRow → ℕ × ObjectRow → Type 0
IsBefore a b = page_behind a.1 ≤ page_of b.1

-- no two share a page
abbrev pub AreApart : List (ℕ × ObjectRow) → Type 0
AreApart objects = AllPairs IsBefore objects

-- the base of a row, 0 if there is none
abbrev pub base_of : Option ObjectRow → ℕ
base_of None = 0
base_of (Some row) = row.base

-- the base of an object, and its place
abbrev pub key_of : ℕ × ObjectRow → ℕ × ℕ
key_of o = (o.1.base, o.0)

-- the rows of a table by place are those of objects, no two of which share a page
pub record AreSound (at : ℕ → Option ObjectRow) : Type 0 where
  pub rows_are : (k : ℕ) (row : ObjectRow) → at k ≡ Some row → IsObjectRow row
  pub apart : (j k : ℕ) (a b : ObjectRow) → j ≢ k → at j ≡ Some a → at k ≡ Some b → a.base ≤ b.base → page_behind a ≤ page_of b

-- the base in each of 4,096 places
pub record AreBases (at : ℕ → Option ObjectRow) (bases : List ℕ) : Type 0 where
  pub long : length bases ≡ 4096
  pub are : (k : ℕ) → slice_index bases k ≡ base_of (at k)

-- a table of at most 4,096 rows, the room that it has, and the bases in all places
pub record AreHeld (rows : List (Option ObjectRow)) (space : ℕ) (bases : List ℕ) : Type 0 where
  pub short : length rows ≤ 4096
  pub room : 4096 ≤ space
  pub sound : AreSound (λ k. slice_index_or rows k None)
  pub bases_are : AreBases (λ k. slice_index_or rows k None) bases

-- another row in one place, or none
pub record IsPut (old new : List (Option ObjectRow)) (place : ℕ) (row : Option ObjectRow) : Type 0 where
  pub here : slice_index_or new place None ≡ row
  pub others : (k : ℕ) → k ≢ place → slice_index_or new k None ≡ slice_index_or old k None

-- a row that shares no page with any of these
abbrev pub MeetsNone : ObjectRow → List (ℕ × ObjectRow) → Type 0
MeetsNone row objects = All (λ (o : ℕ × ObjectRow). (page_behind row ≤ page_of o.1) ⊎ (page_behind o.1 ≤ page_of row)) objects

-- the objects with another row for the object that has its base
abbrev pub with_row : ObjectRow → List (ℕ × ObjectRow) → List (ℕ × ObjectRow)
with_row row objects = map (λ (o : ℕ × ObjectRow). if o.1.base == row.base then (o.0, row) else o) objects

-- the lowest place that no object has
pub record IsLowestFree (place : ℕ) (objects : List (ℕ × ObjectRow)) : Type 0 where
  pub within : place < 4096
  pub free : list_any (λ (o : ℕ × ObjectRow). o.0 == place) objects ≡ false
  pub lowest : (k : ℕ) → k < place → list_any (λ (o : ℕ × ObjectRow). o.0 == k) objects ≡ true

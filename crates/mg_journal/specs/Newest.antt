-- The newest body of each block.
use Rattle.std.specs.{List.AllPairs, Option.option_map_or, Prelude.{◌≡◌, ◌≤◌, ◌+◌, ◌<◌, ◌==◌, ℕ, Bool, true, All, List}}
use Rattle.std.specs.Prelude.{[], ◌∷◌, ◌++◌, find, if◌then◌else◌, length, reverse, Some}
use Rattle.{mg_journal.specs.Places.IsPlace, mg_model.specs.Replay.homes_fit}

-- whether a body belongs to block i
abbrev pub is_for : ℕ → ℕ × ℕ → Bool
is_for i place = place.0 == i

-- each block is above those before it
abbrev pub Ascends : List (ℕ × ℕ) → Type 0
Ascends table = AllPairs (λ (a b : ℕ × ℕ). a.0 < b.0) table

-- for each block the table has the last of these places, and for no other
abbrev pub HasLast : List (ℕ × ℕ) → List (ℕ × ℕ) → Type 0
HasLast places table = (i : ℕ) → find (is_for i) table ≡ find (is_for i) (reverse places)

-- when the old table has the last of some places, the new one has it of these and more after them
abbrev pub TakesIn : List (ℕ × ℕ) → List (ℕ × ℕ) → List (ℕ × ℕ) → Type 0
TakesIn more old new = (places : List (ℕ × ℕ)) → HasLast places old → HasLast (places ++ more) new

-- a table as it was, but with this place for its block
abbrev pub Puts : List (ℕ × ℕ) → ℕ × ℕ → List (ℕ × ℕ) → Type 0
Puts old place new = (i : ℕ) → find (is_for i) new ≡ (if place.0 == i then Some place else find (is_for i) old)

-- the block that holds block i: the newest body that belongs to it, or that block itself
abbrev pub newest_at : List (ℕ × ℕ) → ℕ → ℕ
newest_at table i = option_map_or (λ (place : ℕ × ℕ). place.1) (find (is_for i) table) i

-- the places of the bodies of these writes, from this block on
abbrev pub lying : ℕ → List (ℕ × List ℕ) → List (ℕ × ℕ)
lying first [] = []
lying first ((home, bytes) ∷ writes) = (home, first) ∷ lying (first + 1) writes

-- a table once these bodies are in it, which lie from this block on
pub record Adds (first : ℕ) (writes : List (ℕ × List ℕ)) (old new : List (ℕ × ℕ)) : Type 0 where
  pub newest : TakesIn (lying first writes) old new
  pub fit : (total : ℕ) → homes_fit total writes ≡ true → All (IsPlace total) old → All (IsPlace total) new
  pub few : length new ≤ length old + length writes

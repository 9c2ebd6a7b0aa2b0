-- What is said of the live rows of a table.
use Rattle.std.specs.Prelude.{◌≡◌, ◌+◌, ℕ, All, List, None, Some}
use Rattle.{mg_model.specs.{Spelling.Read, Volume.live_rows}, mg_rules.specs.RowsRead.ArePlaced}

-- each of the first n rows is spelled, and these are the live ones among them, each with its place
pub record AreLive {R : Type 0} (read : ℕ → Read R) (n : ℕ) (rows : List (ℕ × R)) : Type 0 where
  pub are : live_rows read 0 n ≡ Some rows

-- one of the first n rows spells nothing
pub record NotSpelled {R : Type 0} (read : ℕ → Read R) (n : ℕ) : Type 0 where
  pub none : live_rows read 0 n ≡ None

-- each of these rows keeps P
abbrev pub EachKeeps : {R : Type 0} → (R → Type 0) → List (ℕ × R) → Type 0
EachKeeps {R = R} P rows = All (λ (row : ℕ × R). P row.1) rows

-- row i was taken in, which spells this: the new rows are the live ones up to it if the old ones are those before it
pub record TakesRow {R : Type 0} (spelled : Read R) (IsKept : R → Type 0) (i : ℕ) (old new : List (ℕ × R)) : Type 0 where
  pub told : (read : ℕ → Read R) → read i ≡ spelled → AreLive read i old → AreLive read (i + 1) new
  pub placed : ArePlaced i old → ArePlaced (i + 1) new
  pub kept : EachKeeps IsKept old → EachKeeps IsKept new

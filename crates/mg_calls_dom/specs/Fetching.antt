-- What the fetch of a word keeps and counts.
use Rattle.std.specs.Prelude.{ℕ, ◌≡◌, ◌+◌, Bool, if◌then◌else◌}
use Rattle.mg_model.specs.{Abbreviations.is_allowed, Accesses.Access, Kept.{Validates, access_limit}, Keys.Key}
use Rattle.mg_model.specs.State.{State}

-- A word is fetched with X: the words of the search are counted, and one more if the access is allowed.
pub record Fetches (state : State) (access : Access) (kept kept' : Key → Bool) (steps steps' : ℕ) : Type 0 where
  pub searched : ℕ
  pub keeps : Validates state access kept kept' searched
  pub count : steps' ≡ steps + searched + (if is_allowed state access then 1 else 0)

-- the most that it adds to the counter, be it answered or not
abbrev pub fetch_limit : (Key → Bool) → State → Access → ℕ
fetch_limit kept state access = access_limit kept state access + (if is_allowed state access then 1 else 0)

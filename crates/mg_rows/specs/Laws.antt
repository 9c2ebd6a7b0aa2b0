-- The meaning of 'rows are spelled in one way alone'.
use Rattle.std.specs.Prelude.{◌≡◌, ◌<◌, ℕ, All, List, Option, Some, None}
use Rattle.mg_model.specs.{Ranges.IsWord, Spelling.Read, declared.accounts.AccRow.AccRow}

-- the live row of an answer, if there is one
abbrev pub live : {R : Type 0} → Read R → Option R
live None = None
live (Some row) = row

abbrev pub IsByte : ℕ → Type 0
IsByte b = b < 256

-- an account's numbers have 64 bits
pub record IsAccountRow (row : AccRow) : Type 0 where
  pub password : IsWord row.password
  pub balance : IsWord row.balance
  pub owed : IsWord row.owed

-- Bytes spell a row exactly when that row is in its ranges and has these bytes. So a row in its ranges is read back from its
-- bytes. A row that is read from bytes is in its ranges, and writing it gives those bytes.
pub record IsSpelledInOneWay {R : Type 0} (read : List ℕ → Option R) (write : R → List ℕ) (IsInRange : R → Type 0) : Type 0 where
  pub written : (row : R) → IsInRange row → read (write row) ≡ Some row
  pub same : (bytes : List ℕ) (row : R) → read bytes ≡ Some row → write row ≡ bytes
  pub range : (bytes : List ℕ) (row : R) → All IsByte bytes → read bytes ≡ Some row → IsInRange row

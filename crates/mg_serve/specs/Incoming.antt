-- Bytes come, and the lines that they end are stepped. `rest` is whatever may still come, so nothing here depends on how
-- the input is cut.
use Rattle.std.specs.Prelude.{ℕ, ◌≡◌, List, ◌++◌}
use Rattle.{mg_model.specs.{Lines.lines, declared.calls.Line.Line}, mg_serve.specs.Machines.{Entry, Halts, Point, Runs}}
use Rattle.mg_serve.specs.declared.ended.Ended.{Ended}

-- `bytes` came after a part of a line, and the lines that they ended were stepped
pub record Goes {M D : Type 0} (Session : Entry M D → List Line → Point M D → Type 0) (old : Point M D) (part bytes : List ℕ) (new : Point M D) (part' : List ℕ) : Type 0 where
  pub ls : List Line
  pub cuts : (rest : List ℕ) → lines (part ++ (bytes ++ rest)) ≡ ls ++ lines (part' ++ rest)
  pub steps : Runs Session old ls new

-- `bytes` came, and at a newline among them the session ended; `behind` came after it
pub record Breaks {M D : Type 0} (Session : Entry M D → List Line → Point M D → Type 0) (Broken : Ended → Entry M D → List Line → List ℕ → Point M D → Type 0) (e : Ended) (old : Point M D) (part bytes : List ℕ) (new : Point M D) : Type 0 where
  pub ls : List Line
  pub behind : List ℕ
  pub cuts : (rest : List ℕ) → lines (part ++ (bytes ++ rest)) ≡ ls ++ lines (behind ++ rest)
  pub halts : Halts Session Broken e old ls new

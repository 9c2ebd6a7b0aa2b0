-- The input of a session, piece by piece, and how the session ends.
use Rattle.std.specs.{Io.KnownBytes.{Consumes, IsAtEnd}, List.list_any, Prelude.{ℕ, ◌+◌, ◌<◌, ◌≤◌, ◌≡◌, ◌⊎◌, false}}
use Rattle.std.specs.Prelude.{List, ◌++◌, length, take, Option, Some}
use Rattle.mg_model.specs.{Ended.ended_lines, Lines.lines, Print.answered, Words.is_newline, declared.calls.Line.Line}
use Rattle.mg_serve.specs.{Machines.{Entry, IsInside, Point}, Waiting.no_replies, declared.ended.Ended.Ended}
use Rattle.mg_serve.specs.declared.ended.Ended.TheVariants as ended

-- the input so far
pub record Reading {M D : Type 0} (Session : Entry M D → List Line → Point M D → Type 0) (entry : Entry M D) (left : Option (List ℕ)) (total : ℕ) (p : Point M D) (part : List ℕ) (left' : Option (List ℕ)) : Type 0 where
  pub bytes : List ℕ
  pub read : Consumes left left' bytes
  pub count : length bytes ≡ total
  pub ls : List Line
  pub cut : (rest : List ℕ) → lines (bytes ++ rest) ≡ ls ++ lines (part ++ rest)
  pub whole : list_any is_newline part ≡ false
  pub session : Session entry ls p

-- the input was read to its end, its lines were stepped, and no reply waits
pub record Finishes {M D : Type 0} (Session : Entry M D → List Line → Point M D → Type 0) (entry : Entry M D) (left : Option (List ℕ)) (limit : ℕ) (p : Point M D) (left' : Option (List ℕ)) : Type 0 where
  pub bytes : List ℕ
  pub read : Consumes left left' bytes
  pub at_end : IsAtEnd left'
  pub within : length bytes ≤ limit
  pub session : Session entry (lines bytes) p
  pub empty : p.owed ≡ no_replies

-- how many bytes were taken
abbrev pub Size : Ended → ℕ → ℕ → Type 0
Size ended.Source limit count = count ≤ limit
Size ended.TooLong limit count = limit < count
Size ended.Disk limit count = Unit {0}
Size ended.Sink limit count = Unit {0}

-- how few lines are unanswered when the input alone ended it
abbrev pub Few : Ended → ℕ → ℕ → ℕ → Type 0
Few ended.Source calls replies batch = calls < replies + batch
Few ended.TooLong calls replies batch = calls < replies + batch
Few ended.Disk calls replies batch = Unit {0}
Few ended.Sink calls replies batch = Unit {0}

-- The session ended before the end of its input.
pub record Stops {M D : Type 0} (Broken : Ended → Entry M D → List Line → List ℕ → Point M D → Type 0) (e : Ended) (entry : Entry M D) (left : Option (List ℕ)) (limit batch most : ℕ) (p : Point M D) (left' : Option (List ℕ)) : Type 0 where
  pub bytes : List ℕ
  pub ls : List Line
  pub read : Consumes left left' bytes
  pub size : Size e limit (length bytes)
  pub bound : length bytes ≤ most
  -- the lines that were stepped are first lines of the bytes that came
  pub came : (more : List Line) × (lines bytes ≡ ls ++ more)
  -- each of them was ended by a newline, but for a last one at the end of the source
  pub whole : (length ls ≤ length (ended_lines bytes)) ⊎ (IsInside e × IsAtEnd left')
  -- and of the whole input
  pub will : (rest : List ℕ) → left' ≡ Some rest → (more : List Line) × (lines (bytes ++ rest) ≡ ls ++ more)
  pub put : List ℕ
  pub broken : Broken e entry ls put p
  pub few : Few e (length (ended_lines (take limit bytes))) (answered put) batch
  pub open_batch : Few e (length ls) (answered put) batch

-- The words of a command line.
use Rattle.std.specs.Prelude.{ℕ, List, [], get_or}

-- the word at this place, or empty text if there is none
abbrev pub word_at : List (List ℕ) → ℕ → List ℕ
word_at words place = get_or words place []

-- The line of a fault.
use Rattle.std.specs.{Fmt.decimal, Prelude.{ℕ, List, [], ◌∷◌, ◌++◌, codes}}

-- the word for a part of an input with a blank after it, the number of the part, and the word of the kind of fault
abbrev pub numbered_line : List ℕ → ℕ → List ℕ → List ℕ
numbered_line what n kind = what ++ decimal n ++ codes ": " ++ kind ++ 10 ∷ []

-- The words of a command line, and the line that a program prints if they are no command.
use Rattle.std.specs.{Io.KnownBytes.Appends, Prelude.{ℕ, ◌⊎◌, List, [], ◌∷◌, ◌++◌, codes, map, String}}
use Rattle.std.specs.{String.string_bytes, declared.alloc.Global.Global}
use Rattle.{mg_faults.specs.Faults.Rose, mg_io.specs.{Known.AppendsPrefix, declared.traits.Sink.Ghosts}}

-- the words after the program's name, as bytes
abbrev pub arguments : List (String Global) → List (List ℕ)
arguments words = map (λ (word : String Global). string_bytes word) words

abbrev pub usage_line : List ℕ
usage_line = codes "usage" ++ 10 ∷ []

-- A call that does no more than print this line, and ends in one of two ways: the line was printed, or the sink failed.
pub record PrintsUsage {K : Type 0} (to : Ghosts K) (printed failed : Type 0) (sink sink' : K) : Type 0 where
  pub which : printed ⊎ failed
  pub line : printed → Appends (to.taken sink) (to.taken sink') usage_line
  -- Whichever it is, a prefix of the line was printed, and the sink failed only if its count rose.
  pub prefix : AppendsPrefix (to.taken sink) (to.taken sink') usage_line
  pub rose : failed → Rose (to.faults sink) (to.faults sink') (to.is_spent sink')

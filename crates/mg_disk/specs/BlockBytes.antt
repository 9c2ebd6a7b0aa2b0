-- A block of bytes by name, as lemmas use it.
use Rattle.std.specs.Prelude.{◌<◌, ℕ, List, All}

-- numbers that are bytes
abbrev pub IsBytes : List ℕ → Type 0
IsBytes block = All (λ byte. byte < 256) block

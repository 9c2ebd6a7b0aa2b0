-- The result of a call of a `MemDisk`, by its number.
use Rattle.std.specs.Prelude.{◌<◌, ◌≤◌, ℕ, List, Contains}
use Rattle.mg_disk.specs.declared.memory.Turn.{Turn, TheVariants.{Passes, Fails, Past}}

abbrev pub IsTurn : Turn → ℕ → List ℕ → ℕ → Type 0
IsTurn Passes room fails number = (number < room) × (Contains fails number → ⊥)
IsTurn Fails room fails number = (number < room) × Contains fails number
IsTurn Past room fails number = room ≤ number

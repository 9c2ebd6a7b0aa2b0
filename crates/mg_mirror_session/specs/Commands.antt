-- The words that ask for a run over a mirror.
use Rattle.std.specs.Prelude.{ℕ, ◌&&◌, not, List, [], ◌∷◌, if◌then◌else◌, Option, Some, None, codes}
use Rattle.{mg_mirror.specs.declared.mirror.Side.{Side, TheVariants.{Left, Right}}, mg_model.specs.Words.same_bytes}

-- the side that a word names
abbrev pub side_named : List ℕ → Option Side
side_named word = if same_bytes word (codes "left") then Some Left else if same_bytes word (codes "right") then Some Right else None

-- `LEFT mirror RIGHT SIDE`, where LEFT and RIGHT differ
abbrev pub mirror_words : List ℕ → List ℕ → List ℕ → List ℕ → Option Side
mirror_words left word right side = if same_bytes word (codes "mirror") && not (same_bytes left right) then side_named side else None

-- the side that a mirror is to be opened from, if that is what the words behind the program's name spell
abbrev pub mirror_of : List (List ℕ) → Option Side
mirror_of (left ∷ word ∷ right ∷ side ∷ []) = mirror_words left word right side
mirror_of words = None

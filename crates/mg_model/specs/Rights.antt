-- The six rights and their bits.
use Rattle.std.specs.Prelude.{ℕ, ◌/◌, ◌%◌, ◌^◌, ◌==◌, ◌≤◌, Bool, List, [], ◌∷◌}
use Rattle.mg_model.specs.declared.{limits.TheConstants.ALL_RIGHTS as all_rights, rights.Right.{Right, TheVariants.R}}
use Rattle.mg_model.specs.declared.rights.Right.TheVariants.{W, X, D, P, O}

-- the rights are numbered in the order of their bits
abbrev pub right_number : Right → ℕ
right_number R = 0
right_number W = 1
right_number X = 2
right_number D = 3
right_number P = 4
right_number O = 5

-- the letter of each right, in the same order
abbrev pub letters : List (ℕ × Right)
letters = (82, R) ∷ (87, W) ∷ (88, X) ∷ (68, D) ∷ (80, P) ∷ (79, O) ∷ []

-- whether a set of rights, given by its bits, has this one
abbrev pub has_right : ℕ → Right → Bool
has_right rights right = rights / 2 ^ right_number right % 2 == 1

-- a set of at least one right
pub record IsRights (bits : ℕ) : Type 0 where
  pub some : 1 ≤ bits
  pub six : bits ≤ all_rights

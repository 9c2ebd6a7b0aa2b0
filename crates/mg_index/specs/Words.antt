-- The numbers of a table, and a range of numbers.
use Rattle.std.specs.Prelude.{ℕ, ◌+◌, ◌==◌, ◌&&◌, Bool, List, filter, nat_le, nat_lt, not, if◌then◌else◌}

-- what is in the places that are not free
abbrev pub numbers_in : List ℕ → List ℕ
numbers_in table = filter (λ number. not (number == 0)) table

abbrev pub is_within : ℕ → ℕ → ℕ → Bool
is_within first count number = nat_le first number && nat_lt number (first + count)

-- the number, or 0 if it lies in the range
abbrev pub unless_within : ℕ → ℕ → ℕ → ℕ
unless_within first count number = if is_within first count number then 0 else number

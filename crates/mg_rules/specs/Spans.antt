-- Runs of numbers: each a pair of its first number and the one right after it.
use Rattle.std.specs.{List.list_any, Prelude.{ℕ, ◌≡◌, ◌+◌, ◌<◌, ◌&&◌, nat_le, nat_lt, Bool, true, List, [], ◌∷◌}}

-- whether each run begins at or after the end of the one before, and the first at or after a bound
abbrev pub apart_from : ℕ → List (ℕ × ℕ) → Bool
apart_from bound [] = true
apart_from bound (span ∷ spans) = nat_le bound span.0 && apart_from span.1 spans

-- whether each number is above the one before, and the first at or after a bound
abbrev pub rises_from : ℕ → List ℕ → Bool
rises_from bound [] = true
rises_from bound (x ∷ xs) = nat_le bound x && rises_from (x + 1) xs

-- whether each run begins no lower than the one before, and the first at or after a bound
abbrev pub ordered_from : ℕ → List (ℕ × ℕ) → Bool
ordered_from bound [] = true
ordered_from bound (span ∷ spans) = nat_le bound span.0 && ordered_from span.0 spans

-- whether a number lies in a run
abbrev pub is_in : ℕ → ℕ × ℕ → Bool
is_in n span = nat_le span.0 n && nat_lt n span.1

-- a run has a number in it
abbrev pub IsSome : ℕ × ℕ → Type 0
IsSome span = span.0 < span.1

-- each number of a run lies in one of these
abbrev pub IsWithin : ℕ × ℕ → List (ℕ × ℕ) → Type 0
IsWithin run spans = (n : ℕ) → is_in n run ≡ true → list_any (is_in n) spans ≡ true

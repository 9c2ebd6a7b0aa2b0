-- What is taken of a source. A source that does not tell its content has None for it.
use Rattle.std.specs.Prelude.{ℕ, ◌+◌, ◌<◌, ◌≡◌, List, [], length, Option, Some, IfSome, IsSomeAnd}

-- the source was read to its end, and this holds of what it had
abbrev pub OfWhole : Option (List ℕ) → Option (List ℕ) → (List ℕ → Type 0) → Type 0
OfWhole left left' P = IfSome left (λ text. (left' ≡ Some []) × P text)

-- more than `limit` bytes were taken
abbrev pub TakesMore : ℕ → Option (List ℕ) → Option (List ℕ) → Type 0
TakesMore limit left left' = IfSome left (λ text. IsSomeAnd left' (λ rest. limit + length rest < length text))

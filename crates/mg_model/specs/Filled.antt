-- A list in an array of fixed size: the places after its last item hold a filler.
use Rattle.std.specs.Prelude.{◌≡◌, ◌≤◌, ◌-◌, ℕ, List, ◌++◌, length, replicate, drop}

-- a list filled up to n items
abbrev pub filled : {X : Type 0} → X → ℕ → List X → List X
filled filler n xs = xs ++ replicate (n - length xs) filler

-- an array of n items, of which the first `count` are used
pub record IsFilled {X : Type 0} (filler : X) (n : ℕ) (items : List X) (count : ℕ) : Type 0 where
  pub size : length items ≡ n
  pub within : count ≤ n
  pub rest : drop count items ≡ replicate (n - count) filler

-- Counts of words: each layer has its own count, and `Steps` is the count that its caller sees.
use Rattle.std.specs.Prelude.{◌≡◌, ◌+◌, ◌%◌, ◌^◌, ℕ}

-- one count rose by as much as the other, modulo 2^64
abbrev pub CountsAlike : ℕ → ℕ → ℕ → ℕ → Type 0
CountsAlike words words' steps steps' = (n : ℕ) × (steps' ≡ steps + n) × (words' % 2 ^ 64 ≡ (words + n) % 2 ^ 64)

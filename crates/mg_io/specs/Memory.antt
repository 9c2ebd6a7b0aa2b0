-- What contracts see of a source and a sink in memory.
use Rattle.std.specs.Prelude.{ℕ, List, ◌+◌, ◌-◌, ◌^◌, min}

-- the next number; after the last value of 64 bits it stays the same
abbrev pub next_number : ℕ → ℕ
next_number number = min (number + 1) (2 ^ 64 - 1)

-- a source: the bytes left, how many a take gives at most, the numbers of the takes that fail, how many takes were made and
-- how many failed
pub record SourceState : Type 0 where
  pub bytes : List ℕ
  pub piece : ℕ
  pub fails : List ℕ
  pub calls : ℕ
  pub faults : ℕ

-- a sink: the bytes taken, how many it takes in all, the numbers of the puts that fail, how many puts were made and how many
-- failed
pub record SinkState : Type 0 where
  pub bytes : List ℕ
  pub room : ℕ
  pub fails : List ℕ
  pub calls : ℕ
  pub faults : ℕ

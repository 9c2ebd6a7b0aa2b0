-- Devices: what a tape holds, and what a load is answered with.
use Rattle.std.specs.{Option.option_map_or, Prelude.{◌%◌, ◌^◌, ◌==◌, ◌∷◌, ◌++◌, [], ℕ, List, find, if◌then◌else◌}}
use Rattle.std.specs.Prelude.{length, reverse, sum_by}

-- The stores that reached a device, the first one first: the place of each, in bytes from the base, and the value.
abbrev pub Tape : Type 0
Tape = List (ℕ × ℕ)

-- A device: the number of its kind, how many stores its tape has room for, and its tape.
pub record Held : Type 0 where
  pub kind : ℕ
  pub room : ℕ
  pub tape : Tape

-- the value that was stored last at a place, 0 if none was
abbrev pub last_at : Tape → ℕ → ℕ
last_at tape off = option_map_or (λ (entry : ℕ × ℕ). entry.1) (find (λ (entry : ℕ × ℕ). entry.0 == off) (reverse tape)) 0

-- the sum of the values that were stored at a place
abbrev pub sum_at : Tape → ℕ → ℕ
sum_at tape off = sum_by (λ (entry : ℕ × ℕ). if entry.0 == off then entry.1 else 0) tape

-- what a load at a place is answered with: kind 1 is a latch, 2 a console, 3 a counter, and every other kind reads 0
abbrev pub reading : ℕ → Tape → ℕ → ℕ
reading kind tape off =
    if kind == 1 then last_at tape off
    else if kind == 2 then length tape
    else if kind == 3 then sum_at tape off % 2 ^ 64
    else 0

-- the device with a store more
abbrev pub stored : Held → ℕ → ℕ → Held
stored device off value = record { kind = device.kind; room = device.room; tape = device.tape ++ (off, value) ∷ [] }

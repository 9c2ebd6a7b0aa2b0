-- Instructions as words, the other way round: bits 0 to 7 are the op, 8 to 15 a, 16 to 23 b, 24 to 31 c, 32 to 63 the
-- immediate.
use Rattle.std.specs.Prelude.{ℕ, ◌+◌, ◌*◌, ◌^◌, ◌<◌}
use Rattle.mg_model.specs.declared.instructions.Instr.{Instr}
use Rattle.mg_model.specs.declared.instructions.Instr.TheVariants as op

-- the word of these fields
abbrev pub word_of : ℕ → ℕ → ℕ → ℕ → ℕ → ℕ
word_of number a b c i = number + a * 2 ^ 8 + b * 2 ^ 16 + c * 2 ^ 24 + i * 2 ^ 32

-- the word that spells an instruction; fields that it does not have are 0
abbrev pub encoded : Instr → ℕ
encoded op.Halt = word_of 0 0 0 0 0
encoded (op.Set a i) = word_of 1 a 0 0 i
encoded (op.High a i) = word_of 2 a 0 0 i
encoded (op.Add a b c) = word_of 3 a b c 0
encoded (op.Sub a b c) = word_of 4 a b c 0
encoded (op.Lt a b c) = word_of 5 a b c 0
encoded (op.Load a b i) = word_of 6 a b 0 i
encoded (op.Store a b i) = word_of 7 a b 0 i
encoded (op.Jump i) = word_of 8 0 0 0 i
encoded (op.Jz a i) = word_of 9 a 0 0 i
encoded (op.Jnz a i) = word_of 10 a 0 0 i
encoded (op.Pdx a b) = word_of 11 a b 0 0
encoded op.Ret = word_of 12 0 0 0 0
encoded op.Yield = word_of 13 0 0 0 0
encoded op.Sys = word_of 14 0 0 0 0

-- each register is one of the eight
abbrev pub HasRegisters : Instr → Type 0
HasRegisters op.Halt = Unit {0}
HasRegisters (op.Set a i) = a < 8
HasRegisters (op.High a i) = a < 8
HasRegisters (op.Add a b c) = (a < 8) × (b < 8) × (c < 8)
HasRegisters (op.Sub a b c) = (a < 8) × (b < 8) × (c < 8)
HasRegisters (op.Lt a b c) = (a < 8) × (b < 8) × (c < 8)
HasRegisters (op.Load a b i) = (a < 8) × (b < 8)
HasRegisters (op.Store a b i) = (a < 8) × (b < 8)
HasRegisters (op.Jump i) = Unit {0}
HasRegisters (op.Jz a i) = a < 8
HasRegisters (op.Jnz a i) = a < 8
HasRegisters (op.Pdx a b) = (a < 8) × (b < 8)
HasRegisters op.Ret = Unit {0}
HasRegisters op.Yield = Unit {0}
HasRegisters op.Sys = Unit {0}

-- The words of a thread's script: bits 0 to 7 are the op, 8 to 15 a, 16 to 23 b, 24 to 31 c, 32 to 63 the immediate.
use Rattle.std.specs.Prelude.{ℕ, ◌+◌, ◌-◌, ◌*◌, ◌/◌, ◌%◌, ◌^◌, ◌==◌, ◌&&◌, nat_lt, Bool, true, false, slice_index}
use Rattle.std.specs.Prelude.{slice_set, if◌then◌else◌, Option, Some, None}
use Rattle.mg_model.specs.{State.ThreadRow, declared.instructions.Instr.Instr}
use Rattle.mg_model.specs.declared.instructions.Instr.TheVariants as op

-- an instruction, if its fields are as it needs them
abbrev pub where_so : Bool → Instr → Option Instr
where_so true instr = Some instr
where_so false instr = None

abbrev pub is_register : ℕ → Bool
is_register field = nat_lt field 8

-- the instruction of this code and these fields: registers in use are below 8, and fields not in use are 0
abbrev pub instruction_of : ℕ → ℕ → ℕ → ℕ → ℕ → Option Instr
instruction_of code a b c i =
    if code == 0 then where_so (a == 0 && b == 0 && c == 0 && i == 0) op.Halt
    else if code == 1 then where_so (is_register a && b == 0 && c == 0) (op.Set a i)
    else if code == 2 then where_so (is_register a && b == 0 && c == 0) (op.High a i)
    else if code == 3 then where_so (is_register a && is_register b && is_register c && i == 0) (op.Add a b c)
    else if code == 4 then where_so (is_register a && is_register b && is_register c && i == 0) (op.Sub a b c)
    else if code == 5 then where_so (is_register a && is_register b && is_register c && i == 0) (op.Lt a b c)
    else if code == 6 then where_so (is_register a && is_register b && c == 0) (op.Load a b i)
    else if code == 7 then where_so (is_register a && is_register b && c == 0) (op.Store a b i)
    else if code == 8 then where_so (a == 0 && b == 0 && c == 0) (op.Jump i)
    else if code == 9 then where_so (is_register a && b == 0 && c == 0) (op.Jz a i)
    else if code == 10 then where_so (is_register a && b == 0 && c == 0) (op.Jnz a i)
    else if code == 11 then where_so (is_register a && is_register b && c == 0 && i == 0) (op.Pdx a b)
    else if code == 12 then where_so (a == 0 && b == 0 && c == 0 && i == 0) op.Ret
    else if code == 13 then where_so (a == 0 && b == 0 && c == 0 && i == 0) op.Yield
    else if code == 14 then where_so (a == 0 && b == 0 && c == 0 && i == 0) op.Sys
    else None

-- the instruction that a word spells
abbrev pub decoded : ℕ → Option Instr
decoded word = instruction_of (word % 2 ^ 8) (word / 2 ^ 8 % 2 ^ 8) (word / 2 ^ 16 % 2 ^ 8) (word / 2 ^ 24 % 2 ^ 8) (word / 2 ^ 32)

-- all sums and differences are modulo this
abbrev pub word_end : ℕ
word_end = 2 ^ 64

abbrev pub register : ThreadRow → ℕ → ℕ
register thread k = slice_index thread.regs k

abbrev pub with_register : ThreadRow → ℕ → ℕ → ThreadRow
with_register thread k value = record thread { regs = slice_set thread.regs k value }

-- the address that a load or a store names
abbrev pub operand : ThreadRow → ℕ → ℕ → ℕ
operand thread b i = (register thread b + i) % word_end

-- eight times an immediate that is read as signed, modulo `word_end`
abbrev pub jump_by : ℕ → ℕ
jump_by i = if nat_lt i (2 ^ 31) then 8 * i else word_end - 8 * (2 ^ 32 - i)

-- the thread's pc jumps from the address of this word
abbrev pub jumped : ThreadRow → ℕ → ℕ → ThreadRow
jumped thread here i = record thread { pc = (here + jump_by i) % word_end }

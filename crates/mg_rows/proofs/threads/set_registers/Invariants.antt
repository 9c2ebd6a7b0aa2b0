use Rattle.{mg_model.specs.Bytes.numbers_at, std.proofs.Common.{◌≡◌, ◌++◌, drop}}
use Rattle.mg_rows.proofs.threads.set_registers.Given as goal

-- the registers so far are those of the bytes, and the others are as they were
abbrev pub invariant-loop-place : goal.invariant-loop-place
invariant-loop-place l = l.row ≡ record l.initial.row { regs = numbers_at l.block 64 l.place ++ drop l.place l.initial.row.regs }

use Rattle.{mg_model.specs.Turn.with_registers, std.proofs.Common.{◌≡◌, drop}}
use Rattle.mg_script.proofs.settling.put.Given as goal

-- the values so far are in the registers, and those to come go after them
abbrev pub invariant-loop-i : goal.invariant-loop-i
invariant-loop-i l = with_registers l.row l.i (drop l.i l.values) ≡ with_registers l.fn.row 0 l.values

use Rattle.{mg_asm.specs.Printed.operand_text, mg_model.specs.Print.spaced, std.proofs.Common.{◌≡◌, ◌++◌, map, take}}
use Rattle.mg_asm.proofs.printing.put_operands.Given as goal

-- the operands so far are printed
abbrev pub invariant-loop-operand : goal.invariant-loop-operand
invariant-loop-operand l = l.out.items ≡ l.fn.out.items ++ spaced (map operand_text (take l.operand-index l.operands))

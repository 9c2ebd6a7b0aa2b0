-- The text of a fault.
use Rattle.std.specs.{Fmt.decimal, Prelude.{ℕ, List, [], ◌∷◌, ◌++◌, codes}}
use Rattle.mg_asm.specs.declared.faults.{AsmFault.{AsmFault, TheVariants.{Memory, At}}, AsmKind.AsmKind}
use Rattle.mg_asm.specs.declared.faults.AsmKind.TheVariants.{Unknown, Operands, Register, Number, Twice, TooLong}
use Rattle.mg_asm.specs.declared.faults.AsmKind.TheVariants.{NoLabel}

abbrev pub kind_name : AsmKind → List ℕ
kind_name Unknown = codes "Unknown"
kind_name Operands = codes "Operands"
kind_name Register = codes "Register"
kind_name Number = codes "Number"
kind_name Twice = codes "Twice"
kind_name TooLong = codes "TooLong"
kind_name NoLabel = codes "NoLabel"

-- the line of a fault; it is empty if there was not enough memory
abbrev pub fault_line : AsmFault → List ℕ
fault_line Memory = []
fault_line (At line kind) = codes "line " ++ decimal line ++ codes ": " ++ kind_name kind ++ 10 ∷ []

-- The text of a fault.
use Rattle.std.specs.{Fmt.decimal, Prelude.{ℕ, List, [], ◌∷◌, ◌++◌, codes}}
use Rattle.mg_document.specs.declared.faults.{ReplyFault.{ReplyFault, TheVariants.{At, Memory}}, ReplyKind.ReplyKind}
use Rattle.mg_document.specs.declared.faults.ReplyKind.TheVariants.{Missing, NoWord}

abbrev pub kind_name : ReplyKind → List ℕ
kind_name NoWord = codes "NoWord"
kind_name Missing = codes "Missing"

-- the line of a fault; it is empty if there was not enough memory
abbrev pub fault_line : ReplyFault → List ℕ
fault_line Memory = []
fault_line (At reply kind) = codes "reply " ++ decimal reply ++ codes ": " ++ kind_name kind ++ 10 ∷ []

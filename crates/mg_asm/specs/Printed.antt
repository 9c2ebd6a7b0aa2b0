-- How words are printed.
use Rattle.std.specs.{Fmt.decimal, Option.option_map_or, Prelude.{ℕ, ◌-◌, ◌^◌, nat_lt, List, [], ◌∷◌, ◌++◌}}
use Rattle.std.specs.Prelude.{if◌then◌else◌, codes}
use Rattle.{mg_asm.specs.declared.printing.Operand.Operand, mg_model.specs.{Print.{hex_text, spaced}, Script.decoded}}
use Rattle.mg_model.specs.declared.instructions.Instr.{Instr}
use Rattle.mg_asm.specs.declared.printing.Operand.TheVariants as operand
use Rattle.mg_model.specs.declared.instructions.Instr.TheVariants as op

-- an immediate that is read as signed
abbrev pub signed_text : ℕ → List ℕ
signed_text i = if nat_lt i (2 ^ 31) then decimal i else 45 ∷ decimal (2 ^ 32 - i)

-- the words of an instruction's text
abbrev pub instruction_words : Instr → List ℕ × List (List ℕ)
instruction_words op.Halt = (codes "halt", [])
instruction_words (op.Set a i) = (codes "set", decimal a ∷ decimal i ∷ [])
instruction_words (op.High a i) = (codes "high", decimal a ∷ decimal i ∷ [])
instruction_words (op.Add a b c) = (codes "add", decimal a ∷ decimal b ∷ decimal c ∷ [])
instruction_words (op.Sub a b c) = (codes "sub", decimal a ∷ decimal b ∷ decimal c ∷ [])
instruction_words (op.Lt a b c) = (codes "lt", decimal a ∷ decimal b ∷ decimal c ∷ [])
instruction_words (op.Load a b i) = (codes "load", decimal a ∷ decimal b ∷ decimal i ∷ [])
instruction_words (op.Store a b i) = (codes "store", decimal a ∷ decimal b ∷ decimal i ∷ [])
instruction_words (op.Jump i) = (codes "jump", signed_text i ∷ [])
instruction_words (op.Jz a i) = (codes "jz", decimal a ∷ signed_text i ∷ [])
instruction_words (op.Jnz a i) = (codes "jnz", decimal a ∷ signed_text i ∷ [])
instruction_words (op.Pdx a b) = (codes "pdx", decimal a ∷ decimal b ∷ [])
instruction_words op.Ret = (codes "ret", [])
instruction_words op.Yield = (codes "yield", [])
instruction_words op.Sys = (codes "sys", [])

-- the words of a word's line: an instruction, or `.word` and 16 hexadecimal digits if it spells none
abbrev pub printed_words : ℕ → List ℕ × List (List ℕ)
printed_words word = option_map_or instruction_words (decoded word) (codes ".word", hex_text word ∷ [])

-- words as a line, with single spaces
abbrev pub line_of : List ℕ × List (List ℕ) → List ℕ
line_of (first, more) = first ++ spaced more

abbrev pub word_line : ℕ → List ℕ
word_line word = line_of (printed_words word)

-- each word on a line of its own
abbrev pub printed : List ℕ → List ℕ
printed [] = []
printed (word ∷ words) = word_line word ++ 10 ∷ printed words

-- an operand as it is printed
abbrev pub operand_text : Operand → List ℕ
operand_text (operand.Plain n) = decimal n
operand_text (operand.Signed i) = signed_text i
operand_text (operand.Word word) = hex_text word

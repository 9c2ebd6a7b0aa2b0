-- The item of a line of a script's text.
use Rattle.std.specs.{Option.option_map_or, Prelude.{ℕ, ◌+◌, ◌*◌, ◌^◌, List, [], ◌∷◌, if◌then◌else◌, Option, Some}}
use Rattle.std.specs.Prelude.{None, Result, Ok, Err, codes}
use Rattle.mg_asm.specs.Tokens.{distance_of, immediate_of, label_of, line_tokens, name_of, register_of}
use Rattle.mg_asm.specs.declared.faults.AsmKind.{AsmKind, TheVariants.{Unknown, Operands, Register, Number}}
use Rattle.{mg_asm.specs.declared.{items.Item.Item, names.Name.Name}, mg_model.specs.Words.{number_of, same_bytes}}
use Rattle.{mg_model.specs.declared.instructions.Instr.Instr, mg_script.specs.Encoded.encoded}
use Rattle.mg_asm.specs.declared.items.Item.TheVariants as item
use Rattle.mg_model.specs.declared.instructions.Instr.TheVariants as op

-- an item, or why there is none
abbrev pub Reading : Type 0
Reading = Result Item AsmKind

-- what follows of a value, or the fault
abbrev pub on_ok : {X Y E : Type 0} → (X → Y) → Result X E → Result Y E
on_ok f (Ok x) = Ok (f x)
on_ok f (Err fault) = Err fault

-- what follows of an operand, or the fault of its kind
abbrev pub from : {X Y : Type 0} → AsmKind → Option X → (X → Result Y AsmKind) → Result Y AsmKind
from kind None f = Err kind
from kind (Some x) f = f x

-- just this number of words
abbrev pub one : List (List ℕ) → Option (List ℕ)
one (a ∷ []) = Some a
one _ = None

abbrev pub two : List (List ℕ) → Option (List ℕ × List ℕ)
two (a ∷ b ∷ []) = Some (a, b)
two _ = None

abbrev pub three : List (List ℕ) → Option (List ℕ × List ℕ × List ℕ)
three (a ∷ b ∷ c ∷ []) = Some (a, b, c)
three _ = None

-- The operands of an instruction: registers, and then an immediate. Their number is tried first, then the registers from the
-- left, then the immediate.
abbrev pub registers_2 : List (List ℕ) → Result (ℕ × ℕ) AsmKind
registers_2 words =
    from Operands (two words) (λ (a, b). from Register (register_of a) (λ a. from Register (register_of b) (λ b. Ok (a, b))))

abbrev pub registers_3 : List (List ℕ) → Result (ℕ × ℕ × ℕ) AsmKind
registers_3 words =
    from Operands (three words)
    (λ (a, b, c). from Register (register_of a) (λ a. from Register (register_of b)
    (λ b. from Register (register_of c) (λ c. Ok (a, b, c)))))

abbrev pub register_1_and_immediate : List (List ℕ) → Result (ℕ × ℕ) AsmKind
register_1_and_immediate words =
    from Operands (two words) (λ (a, i). from Register (register_of a) (λ a. from Number (immediate_of i) (λ i. Ok (a, i))))

abbrev pub registers_2_and_immediate : List (List ℕ) → Result (ℕ × ℕ × ℕ) AsmKind
registers_2_and_immediate words =
    from Operands (three words)
    (λ (a, b, i). from Register (register_of a) (λ a. from Register (register_of b)
    (λ b. from Number (immediate_of i) (λ i. Ok (a, b, i)))))

-- the word of an instruction
abbrev pub as_word : Result Instr AsmKind → Reading
as_word read = on_ok (λ instr. item.Word (encoded instr)) read

-- an instruction without operands
abbrev pub alone : Instr → List (List ℕ) → Reading
alone instr [] = as_word (Ok instr)
alone instr _ = Err Operands

-- a jump to a label or by a number of words; `near` is the word of the jump with the immediate 0
abbrev pub jump_to : ℕ → List ℕ → Reading
jump_to near target =
    option_map_or (λ (name : Name). Ok (item.Jump near name))
    (name_of target)
    (from Number (distance_of target) (λ i. Ok (item.Word (near + i * 2 ^ 32))))

abbrev pub jump : List (List ℕ) → Reading
jump words = from Operands (one words) (jump_to (encoded (op.Jump 0)))

abbrev pub jump_by_register : (ℕ → Instr) → List (List ℕ) → Reading
jump_by_register made words =
    from Operands (two words) (λ (a, target). from Register (register_of a) (λ a. jump_to (encoded (made a)) target))

-- `.word N`: any word
abbrev pub plain_word : List (List ℕ) → Reading
plain_word words = from Operands (one words) (λ n. from Number (number_of n) (λ n. Ok (item.Word n)))

-- the first word of a line, and the item by the others
abbrev pub Row : Type 0
Row = List ℕ × (List (List ℕ) → Reading)

-- the instructions, in the order of their ops, and the words that need be none
abbrev pub rows : List Row
rows =
    (codes "halt", alone op.Halt)
    ∷ (codes "set", λ words. as_word (on_ok (λ (a, i). op.Set a i) (register_1_and_immediate words)))
    ∷ (codes "high", λ words. as_word (on_ok (λ (a, i). op.High a i) (register_1_and_immediate words)))
    ∷ (codes "add", λ words. as_word (on_ok (λ (a, b, c). op.Add a b c) (registers_3 words)))
    ∷ (codes "sub", λ words. as_word (on_ok (λ (a, b, c). op.Sub a b c) (registers_3 words)))
    ∷ (codes "lt", λ words. as_word (on_ok (λ (a, b, c). op.Lt a b c) (registers_3 words)))
    ∷ (codes "load", λ words. as_word (on_ok (λ (a, b, i). op.Load a b i) (registers_2_and_immediate words)))
    ∷ (codes "store", λ words. as_word (on_ok (λ (a, b, i). op.Store a b i) (registers_2_and_immediate words)))
    ∷ (codes "jump", jump)
    ∷ (codes "jz", jump_by_register (λ a. op.Jz a 0))
    ∷ (codes "jnz", jump_by_register (λ a. op.Jnz a 0))
    ∷ (codes "pdx", λ words. as_word (on_ok (λ (a, b). op.Pdx a b) (registers_2 words)))
    ∷ (codes "ret", alone op.Ret)
    ∷ (codes "yield", alone op.Yield)
    ∷ (codes "sys", alone op.Sys)
    ∷ (codes ".word", plain_word)
    ∷ []

-- the item by the row of this word, if there is one
abbrev pub row_by : List Row → List ℕ → List (List ℕ) → Reading
row_by [] first more = Err Unknown
row_by ((known, form) ∷ others) first more = if same_bytes first known then form more else row_by others first more

-- a label is alone on its line
abbrev pub label_alone : List (List ℕ) → Name → Reading
label_alone [] name = Ok (item.Label name)
label_alone (word ∷ more) name = Err Operands

-- the item of these words
abbrev pub reading : List (List ℕ) → Reading
reading [] = Ok item.Blank
reading (first ∷ more) = option_map_or (label_alone more) (label_of first) (row_by rows first more)

-- the item of a line
abbrev pub line_reading : List ℕ → Reading
line_reading line = reading (line_tokens line)

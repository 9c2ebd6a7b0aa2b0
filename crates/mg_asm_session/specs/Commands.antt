-- The commands, and the words that spell each.
use Rattle.std.specs.Prelude.{ℕ, ◌^◌, ◌<◌, List, [], ◌∷◌, if◌then◌else◌, Option, Some, None, codes}
use Rattle.{mg_asm.specs.Stored.may_store_at, mg_asm_session.specs.declared.words.Command.{Command, TheVariants.Print}}
use Rattle.{mg_asm_session.specs.declared.words.Command.TheVariants.Store, mg_model.specs.Words.{and_then, number_of}}
use Rattle.mg_model.specs.Words.{same_bytes}

-- `THREAD ADDRESS`
abbrev pub store_of : List ℕ → List ℕ → Option Command
store_of thread address =
    and_then (number_of thread) (λ t. and_then (number_of address) (λ a. if may_store_at a then Some (Store t a) else None))

-- `print`
abbrev pub print_of : List ℕ → Option Command
print_of word = if same_bytes word (codes "print") then Some Print else None

-- the command that the words after the program's name spell, if they spell one
abbrev pub command_of : List (List ℕ) → Option Command
command_of (word ∷ []) = print_of word
command_of (thread ∷ address ∷ []) = store_of thread address
command_of words = None

-- the words of a command are stored at addresses that objects may have
abbrev pub IsStored : Command → Type 0
IsStored (Store thread address) = address < 2 ^ 52
IsStored Print = Unit {0}

-- The commands, and the words that spell each.
use Rattle.std.specs.Prelude.{ℕ, ◌^◌, ◌&&◌, ◌<◌, ◌≤◌, nat_le, Bool, List, [], ◌∷◌, if◌then◌else◌, Option, Some, None}
use Rattle.std.specs.Prelude.{codes}
use Rattle.{mg_asm.specs.Stored.may_store_at, mg_document.specs.Documents.byte_limit}
use Rattle.mg_document_session.specs.declared.words.Command.{Command, TheVariants.{Bytes, Get, Put}}
use Rattle.mg_model.specs.Words.{and_then, number_of, same_bytes}

-- as many bytes as a document may have
abbrev pub is_few : ℕ → Bool
is_few bytes = nat_le bytes byte_limit

-- `bytes`
abbrev pub bytes_of : List ℕ → Option Command
bytes_of word = if same_bytes word (codes "bytes") then Some Bytes else None

-- `put THREAD ADDRESS`
abbrev pub put_of : List ℕ → List ℕ → List ℕ → Option Command
put_of word thread address =
    if same_bytes word (codes "put")
    then and_then (number_of thread) (λ t. and_then (number_of address) (λ a. if may_store_at a then Some (Put t a) else None))
    else None

-- `get THREAD ADDRESS BYTES`
abbrev pub get_of : List ℕ → List ℕ → List ℕ → List ℕ → Option Command
get_of word thread address bytes =
    if same_bytes word (codes "get")
    then and_then (number_of thread) (λ t. and_then (number_of address)
    (λ a. and_then (number_of bytes) (λ n. if may_store_at a && is_few n then Some (Get t a n) else None)))
    else None

-- the command that the words after the program's name spell, if they spell one
abbrev pub command_of : List (List ℕ) → Option Command
command_of (word ∷ []) = bytes_of word
command_of (word ∷ thread ∷ address ∷ []) = put_of word thread address
command_of (word ∷ thread ∷ address ∷ bytes ∷ []) = get_of word thread address bytes
command_of words = None

-- the words of a command are stored and loaded at addresses that objects may have, and are no more than an object holds
abbrev pub HasPlace : Command → Type 0
HasPlace (Put thread address) = address < 2 ^ 52
HasPlace (Get thread address bytes) = (address < 2 ^ 52) × (bytes ≤ byte_limit)
HasPlace Bytes = Unit {0}

-- The document that replies give.
use Rattle.std.specs.{List.slice_split, Prelude.{ℕ, zero, suc, ◌+◌, ◌==◌, ◌&&◌, List, [], ◌∷◌, ◌++◌, take}}
use Rattle.std.specs.Prelude.{if◌then◌else◌, is_some, Option, Some, None, Result, Ok, Err}
use Rattle.mg_document.specs.{Documents.words_for, declared.faults.ReplyFault.{ReplyFault, TheVariants.At}}
use Rattle.mg_document.specs.declared.faults.ReplyKind.TheVariants.{Missing, NoWord}
use Rattle.mg_model.specs.{Abbreviations.word_bytes, Ended.all_but_last, Words.{and_then, hex_part, is_newline}}
use Rattle.mg_model.specs.Words.{number_of}

-- the replies that a newline ends
abbrev pub ended : List ℕ → List (List ℕ)
ended bytes = all_but_last (slice_split is_newline bytes)

-- the bytes after "ok ", if the reply begins so
abbrev pub ok_part : List ℕ → Option (List ℕ)
ok_part [] = None
ok_part (a ∷ []) = None
ok_part (a ∷ b ∷ []) = None
ok_part (a ∷ b ∷ c ∷ bytes) = if a == 111 && b == 107 && c == 32 then Some bytes else None

-- the word in a reply: after "ok ", 0x and 1 to 16 hexadecimal digits
abbrev pub word_told : List ℕ → Option ℕ
word_told reply = and_then (ok_part reply) (λ word. if is_some (hex_part word) then number_of word else None)

-- what follows from the word in reply n, or its fault
abbrev pub with_told : {X : Type 0} → ℕ → Option ℕ → (ℕ → Result X ReplyFault) → Result X ReplyFault
with_told n None f = Err (At n NoWord)
with_told n (Some word) f = f word

-- the bytes of a number of words that these replies give, of which the first is reply n, with the bytes before them; or the first fault
abbrev pub bytes_behind : List ℕ → ℕ → ℕ → List (List ℕ) → Result (List ℕ) ReplyFault
bytes_behind before n zero replies = Ok before
bytes_behind before n (suc count) [] = Err (At n Missing)
bytes_behind before n (suc count) (reply ∷ replies) =
    with_told n (word_told reply) (λ word. bytes_behind (before ++ word_bytes word) (n + 1) count replies)

-- the first n bytes
abbrev pub first_bytes : ℕ → Result (List ℕ) ReplyFault → Result (List ℕ) ReplyFault
first_bytes n (Ok bytes) = Ok (take n bytes)
first_bytes n (Err fault) = Err fault

-- the bytes of a document: the first reply gives their number, and the replies after it the words that hold them
abbrev pub bytes_of : List (List ℕ) → Result (List ℕ) ReplyFault
bytes_of [] = Err (At 1 Missing)
bytes_of (reply ∷ replies) = with_told 1 (word_told reply) (λ length. first_bytes length (bytes_behind [] 2 (words_for length) replies))

abbrev pub bytes_told : List ℕ → Result (List ℕ) ReplyFault
bytes_told text = bytes_of (ended text)

-- The calls that store a document, and those that load one; and their lines.
use Rattle.std.specs.{Fmt.decimal, Prelude.{ℕ, zero, suc, ◌+◌, List, [], ◌∷◌, ◌++◌, codes}}
use Rattle.{mg_asm.specs.Stored.{store_calls, store_lines}, mg_document.specs.Documents.{document, words_for}}
use Rattle.mg_model.specs.{Print.{hex_text, spaced}, declared.calls.Line.Line}
use Rattle.mg_model.specs.declared.calls.Call.TheVariants as call

-- a thread stores the words of a document from an address on
abbrev pub put_calls : ℕ → ℕ → List ℕ → List Line
put_calls thread address bytes = store_calls thread address (document bytes)

abbrev pub put_text : ℕ → ℕ → List ℕ → List ℕ
put_text thread address bytes = store_lines thread address (document bytes)

-- a thread loads a number of words from an address on
abbrev pub load_calls : ℕ → ℕ → ℕ → List Line
load_calls thread address zero = []
load_calls thread address (suc n) = record { thread = thread; call = call.Load address } ∷ load_calls thread (address + 8) n

-- the line of such a call
abbrev pub load_line : ℕ → ℕ → List ℕ
load_line thread address = decimal thread ++ spaced (codes "load" ∷ hex_text address ∷ []) ++ 10 ∷ []

abbrev pub load_lines : ℕ → ℕ → ℕ → List ℕ
load_lines thread address zero = []
load_lines thread address (suc n) = load_line thread address ++ load_lines thread (address + 8) n

-- a thread loads a document with this number of bytes: the word with the number, and the words after it
abbrev pub get_calls : ℕ → ℕ → ℕ → List Line
get_calls thread address bytes = load_calls thread address (suc (words_for bytes))

abbrev pub get_text : ℕ → ℕ → ℕ → List ℕ
get_text thread address bytes = load_lines thread address (suc (words_for bytes))

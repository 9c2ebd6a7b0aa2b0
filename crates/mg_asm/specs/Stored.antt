-- Words as lines of calls that store them.
use Rattle.std.specs.{Fmt.decimal, Prelude.{ℕ, ◌+◌, ◌%◌, ◌^◌, ◌==◌, ◌&&◌, nat_lt, Bool, List, [], ◌∷◌, ◌++◌, codes}}
use Rattle.mg_model.specs.{Print.{hex_text, spaced}, declared.calls.Line.Line}
use Rattle.mg_model.specs.declared.calls.Call.TheVariants as call

-- words may be stored at a multiple of 8 below the end of the pages that objects may have
abbrev pub may_store_at : ℕ → Bool
may_store_at address = address % 8 == 0 && nat_lt address (2 ^ 52)

-- the line of a call by which a thread stores a word at an address
abbrev pub store_line : ℕ → ℕ → ℕ → List ℕ
store_line thread address word = decimal thread ++ spaced (codes "store" ∷ hex_text address ∷ hex_text word ∷ []) ++ 10 ∷ []

-- such a line for each word, from an address on
abbrev pub store_lines : ℕ → ℕ → List ℕ → List ℕ
store_lines thread address [] = []
store_lines thread address (word ∷ words) = store_line thread address word ++ store_lines thread (address + 8) words

-- the calls themselves
abbrev pub store_calls : ℕ → ℕ → List ℕ → List Line
store_calls thread address [] = []
store_calls thread address (word ∷ words) =
    record { thread = thread; call = call.Store address word } ∷ store_calls thread (address + 8) words

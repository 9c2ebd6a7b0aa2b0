-- The lines that store words are read as calls that do.
use Rattle.mg_asm.specs.{LineLemmas.{AreWords, length-hex_text, lines-read}, Stored.{store_calls, store_line, store_lines}}
use Rattle.mg_model.specs.{Lines.{exactly, line_with, lines}, Print.{hex_text, spaced}, Ranges.IsWord, Words.{is_some_word, numbers_of}}
use Rattle.{mg_model.specs.declared.calls.Line.Line, mg_text.specs.NumberLemmas.{High, hex-high, hex-some, number_of-hex}, std.proofs.Common.{◌≡◌, ℕ}}
use Rattle.std.proofs.Common.{◌+◌, ◌*◌, ◌^◌, ◌<◌, ◌≤◌, true, List, [], ◌∷◌, ◌++◌, length, slice_index, All, Some, codes, refl, ap, ◌∙◌, arith}
use Rattle.std.{proofs.{Common.{append_assoc, length-append}, lemmas.{Fmt.length-decimal-le, List.Elements.{All-head, All-tail}}}, specs.Fmt.decimal}
use Rattle.std.specs.Option.{option_map_or}
use Rattle.mg_model.specs.declared.calls.Call.TheVariants as call

-- the words after the thread's number
abbrev parts : ℕ → ℕ → List (List ℕ)
parts address word = codes "store" ∷ hex_text address ∷ hex_text word ∷ []

hex_word : (w : ℕ) → (is_some_word (hex_text w) ≡ true) × High (hex_text w)
hex_word w = (hex-some w, hex-high w)

store_word : (is_some_word (codes "store") ≡ true) × High (codes "store")
store_word = (refl, (omega arith, (omega arith, (omega arith, (omega arith, (omega arith, tt))))))

parts-words : (address word : ℕ) → AreWords (parts address word)
parts-words address word = (store_word, (hex_word address, (hex_word word, tt)))

-- a line's bytes without its newline
abbrev front : ℕ → ℕ → ℕ → List ℕ
front thread address word = decimal thread ++ spaced (parts address word)

front-length : (thread address word : ℕ) → thread < 2 ^ 64 → length (front thread address word) ≤ 256
front-length thread address word fits =
    let few = length-decimal-le 20 thread (omega arith) (omega arith) fits in
    let a = length-hex_text address in
    let w = length-hex_text word in
    let one = length-append (decimal thread) (spaced (parts address word)) in
    let two = length-append (hex_text address) (32 ∷ hex_text word ++ []) in
    let three = length-append (hex_text word) [] in
    omega arith

numbers : (address word : ℕ) → IsWord address → IsWord word → numbers_of (hex_text address ∷ hex_text word ∷ []) ≡ Some (address ∷ word ∷ [])
numbers address word a w = rw (number_of-hex address a, number_of-hex word w) refl

line-before : (thread address word : ℕ) (rest : List ℕ) → store_line thread address word ++ rest ≡ front thread address word ++ 10 ∷ rest
line-before thread address word rest = grind (arith, append_assoc)

pub lines-back : (thread address : ℕ) (ws : List ℕ) → thread < 2 ^ 64 → address + 8 * length ws ≤ 2 ^ 64 → All IsWord ws
    → lines (store_lines thread address ws) ≡ store_calls thread address ws
lines-back thread address [] fits room are = refl
lines-back thread address (w ∷ ws) fits room are =
    let rest = store_lines thread (address + 8) ws in
    ap lines (line-before thread address w rest)
    ∙ lines-read thread (parts address w) fits (parts-words address w) (front-length thread address w fits) rest
    ∙ ap (λ o. line_with thread (option_map_or (λ numbers. call.Store (slice_index numbers 0) (slice_index numbers 1)) (exactly 2 o) call.Bad) ∷ lines rest)
    (numbers address w (omega (arith, room)) (All-head IsWord w ws are))
    ∙ ap (λ (v : List Line). record { thread = thread; call = call.Store address w } ∷ v) (lines-back thread (address + 8) ws fits (omega (arith, room)) (All-tail IsWord w ws are))

-- A line that loads a word is read as the call `load`.
use Rattle.{mg_asm.specs.LineLemmas.{AreWords, length-hex_text, lines-read}, mg_document.specs.Asked.{load_calls, load_lines}}
use Rattle.mg_model.specs.{Lines.{exactly, line_with, lines}, Print.{hex_text, spaced}, Ranges.IsWord, Words.{is_some_word, numbers_of}}
use Rattle.{mg_model.specs.declared.calls.Line.Line, mg_text.specs.NumberLemmas.{High, hex-high, hex-some, number_of-hex}, std.proofs.Common.{◌≡◌, ℕ}}
use Rattle.std.proofs.Common.{suc, zero, ◌+◌, ◌*◌, ◌^◌, ◌<◌, ◌≤◌, true, List, [], ◌∷◌, ◌++◌, length, slice_index, Some, codes, refl, ap, ◌∙◌, arith}
use Rattle.std.{proofs.{Common.{append_assoc, length-append}, lemmas.Fmt.length-decimal-le}, specs.{Fmt.decimal, Option.option_map_or}}
use Rattle.mg_model.specs.declared.calls.Call.TheVariants as call

-- the words after the thread's number
abbrev parts : ℕ → List (List ℕ)
parts address = codes "load" ∷ hex_text address ∷ []

load_word : (is_some_word (codes "load") ≡ true) × High (codes "load")
load_word = (refl, (omega arith, (omega arith, (omega arith, (omega arith, tt)))))

parts-words : (address : ℕ) → AreWords (parts address)
parts-words address = (load_word, ((hex-some address, hex-high address), tt))

-- a line's bytes without its newline
abbrev front : ℕ → ℕ → List ℕ
front thread address = decimal thread ++ spaced (parts address)

front-length : (thread address : ℕ) → thread < 2 ^ 64 → length (front thread address) ≤ 256
front-length thread address fits =
    let few = length-decimal-le 20 thread (omega arith) (omega arith) fits in
    let a = length-hex_text address in
    let one = length-append (decimal thread) (spaced (parts address)) in
    let two = length-append (hex_text address) [] in
    omega arith

numbers : (address : ℕ) → IsWord address → numbers_of (hex_text address ∷ []) ≡ Some (address ∷ [])
numbers address a = rw (number_of-hex address a) refl

pub loads-back : (thread address n : ℕ) → thread < 2 ^ 64 → address + 8 * n ≤ 2 ^ 64 → lines (load_lines thread address n) ≡ load_calls thread address n
loads-back thread address zero fits room = refl
loads-back thread address (suc n) fits room =
    let rest = load_lines thread (address + 8) n in
    ap lines (append_assoc (front thread address) (10 ∷ []) rest)
    ∙ lines-read thread (parts address) fits (parts-words address) (front-length thread address fits) rest
    ∙ ap (λ o. line_with thread (option_map_or (λ numbers. call.Load (slice_index numbers 0)) (exactly 1 o) call.Bad) ∷ lines rest) (numbers address (omega (arith, room)))
    ∙ ap (λ (v : List Line). record { thread = thread; call = call.Load address } ∷ v) (loads-back thread (address + 8) n fits (omega (arith, room)))

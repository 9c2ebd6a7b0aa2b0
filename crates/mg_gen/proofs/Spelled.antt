-- A call of a thread, as it is written, spells its line.
use Rattle.{mg_gen.{proofs.Numbers.{IsWord, decimal-word}, specs.Generated.call_text}, mg_model.specs.Abbreviations.{is_among, lone_words}}
use Rattle.mg_model.specs.{Abbreviations.longest_line, Lines.{bad_line, call_line, is_note, line_of, line_of_words, spelled_line, thread_line}}
use Rattle.mg_model.specs.{Print.spaced, Words.{is_blank, is_some_word, number_of, words}, declared.calls.Line.Line}
use Rattle.{mg_text.specs.NumberLemmas.{Digits, High, decimal-digits, number_of-back}, std.proofs.Common.{◌≡◌, ℕ, ◌*◌, ◌^◌, ◌<◌, ◌≤◌, ◌==◌, Bool}}
use Rattle.std.proofs.Common.{false, List, [], ◌∷◌, ◌++◌, length, filter, Some, None, if◌then◌else◌, refl, ap, ◌∙◌, arith, length-append}
use Rattle.std.{proofs.lemmas.{Bool.{le-ltb, Decides.nat_tests}, List.append-nil}, specs.{Fmt.decimal, List.slice_split, Option.option_map_or}}

blank_low : (b : ℕ) → 45 ≤ b → is_blank b ≡ false
blank_low b h = grind (arith, nat_tests)

abbrev pub AreWords : List (List ℕ) → Type 0
AreWords [] = Unit {0}
AreWords (t ∷ ts) = IsWord t × AreWords ts

split-whole : (xs : List ℕ) → High xs → slice_split is_blank xs ≡ xs ∷ []
split-whole [] h = refl
split-whole (b ∷ xs) h = rw (blank_low b h.0, split-whole xs h.1) refl

split-before : (xs ys : List ℕ) → High xs → slice_split is_blank (xs ++ 32 ∷ ys) ≡ xs ∷ slice_split is_blank ys
split-before [] ys h = refl
split-before (x ∷ xs) ys h = rw (blank_low x h.0, split-before xs ys h.1) refl

split-spaced : (t : List ℕ) (ts : List (List ℕ)) → High t → AreWords ts → slice_split is_blank (t ++ spaced ts) ≡ t ∷ ts
split-spaced t [] h are = ap (slice_split is_blank) (append-nil t) ∙ split-whole t h
split-spaced t (u ∷ us) h are = split-before t (u ++ spaced us) h ∙ ap (λ (v : List (List ℕ)). t ∷ v) (split-spaced u us are.0.high are.1)

all-words : (ts : List (List ℕ)) → AreWords ts → filter is_some_word ts ≡ ts
all-words [] are = refl
all-words (t ∷ ts) are = rw are.0.some (ap (λ (v : List (List ℕ)). t ∷ v) (all-words ts are.1))

words-back : (t : List ℕ) (ts : List (List ℕ)) → IsWord t → AreWords ts → words (t ++ spaced ts) ≡ t ∷ ts
words-back t ts is are = ap (filter is_some_word) (split-spaced t ts is.high are) ∙ all-words (t ∷ ts) (is, are)

length-spaced : (ts : List (List ℕ)) → AreWords ts → length (spaced ts) ≤ 21 * length ts
length-spaced [] are = omega arith
length-spaced (t ∷ ts) are =
    let rest = length-spaced ts are.1 in
    let few = are.0.few in
    let long = length-append t (spaced ts) in
    omega arith

no_note : (xs : List ℕ) → High xs → is_note xs ≡ false
no_note [] h = refl
no_note (b ∷ xs) h = let low : 45 ≤ b = h.0 in grind (arith, nat_tests)

-- a number is none of the words that begin a line without a thread's number
no_lone_word : (xs : List ℕ) → Digits xs → is_among xs lone_words ≡ false
no_lone_word [] h = refl
no_lone_word (b ∷ xs) h =
    let small : b ≤ 57 = h.0.1 in
    let n : (b == 110) ≡ false = grind (arith, nat_tests) in
    let r : (b == 114) ≡ false = grind (arith, nat_tests) in
    rw (n, r) refl

-- which line a text spells
pub record Spells (text : List ℕ) (asked : Line) : Type 0 where
  pub is : line_of text ≡ Some asked

pub call-spells : (t : ℕ) (word : List ℕ) (args : List (List ℕ)) (asked : Line) → t < 2 ^ 64 → IsWord word → AreWords args → length args ≤ 3
    → is_among word lone_words ≡ false → call_line t word args ≡ asked → Spells (call_text t word args) asked
call-spells t word args asked fits is are few shared made = record {
  is = let first = decimal-word t fits in
      let short = first.few in
      let back = length-spaced (word ∷ args) (is, are) in
      let long = length-append (decimal t) (spaced (word ∷ args)) in
      ap (λ (b : Bool). if b then Some bad_line else line_of_words (words (call_text t word args))) (le-ltb longest_line (length (call_text t word args)) (omega arith))
      ∙ ap line_of_words (words-back (decimal t) (word ∷ args) first (is, are))
      ∙ ap (λ (b : Bool). if b then None else Some (spelled_line (decimal t) (word ∷ args))) (no_note (decimal t) first.high)
      ∙ ap (λ (l : Line). Some l)
      (ap (λ (b : Bool). if b then call_line 0 (decimal t) (word ∷ args) else option_map_or (λ n. thread_line n (word ∷ args)) (number_of (decimal t)) bad_line)
      (no_lone_word (decimal t) (decimal-digits t fits))
      ∙ ap (λ o. option_map_or (λ n. thread_line n (word ∷ args)) o bad_line) (number_of-back t fits)
      ∙ ap (λ (b : Bool). if b then bad_line else call_line t word args) shared
      ∙ made);
}

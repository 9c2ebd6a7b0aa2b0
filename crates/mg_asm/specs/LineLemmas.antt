-- A line of words as they are printed is read as those words.
use Rattle.std.proofs.{Common.{refl, ap, ◌∙◌, arith}, lemmas.{Bool.Decides.nat_tests, Fmt.decimal_nonempty}}
use Rattle.std.{proofs.lemmas.List.append-nil, specs.{Fmt.decimal, List.{cons_option, filter_map, slice_split}}}
use Rattle.std.specs.{Option.option_map_or, Prelude.{◌≡◌, ℕ, ◌^◌, ◌<◌, ◌≤◌, ◌==◌, nat_lt, Bool, true, false, List, []}}
use Rattle.std.specs.Prelude.{◌∷◌, ◌++◌, length, filter, Some, None, if◌then◌else◌}
use Rattle.mg_model.specs.{Abbreviations.{is_among, lone_words, longest_line}, Lines.{bad_line, call_line, is_note}}
use Rattle.mg_model.specs.{Lines.{line_of, line_of_words, lines, spelled_line, thread_line}, Print.{hex_text, spaced}}
use Rattle.mg_model.specs.Words.{is_blank, is_newline, is_some_word, number_of, words}
use Rattle.mg_text.specs.NumberLemmas.{Digits, High, decimal-digits, digits-high, length-hex, number_of-back}

-- no byte cuts
abbrev pub Misses : (ℕ → Bool) → List ℕ → Type 0
Misses cuts [] = Unit {0}
Misses cuts (b ∷ bytes) = (cuts b ≡ false) × Misses cuts bytes

pub misses-append : (cuts : ℕ → Bool) (xs ys : List ℕ) → Misses cuts xs → Misses cuts ys → Misses cuts (xs ++ ys)
misses-append cuts [] ys h k = k
misses-append cuts (x ∷ xs) ys h k = (h.0, misses-append cuts xs ys h.1 k)

pub high-misses : (cuts : ℕ → Bool) → ((b : ℕ) → 45 ≤ b → cuts b ≡ false) → (xs : List ℕ) → High xs → Misses cuts xs
high-misses cuts low [] h = tt
high-misses cuts low (b ∷ xs) h = (low b h.0, high-misses cuts low xs h.1)

pub split-whole : (cuts : ℕ → Bool) (xs : List ℕ) → Misses cuts xs → slice_split cuts xs ≡ xs ∷ []
split-whole cuts [] h = refl
split-whole cuts (b ∷ xs) h = rw (h.0, split-whole cuts xs h.1) refl

pub split-before : (cuts : ℕ → Bool) (xs : List ℕ) (b : ℕ) (ys : List ℕ) → Misses cuts xs → cuts b ≡ true → slice_split cuts (xs ++ b ∷ ys) ≡ xs ∷ slice_split cuts ys
split-before cuts [] b ys h e = rw e refl
split-before cuts (x ∷ xs) b ys h e = rw (h.0, split-before cuts xs b ys h.1 e) refl

pub newline_low : (b : ℕ) → 45 ≤ b → is_newline b ≡ false
newline_low b h = grind (arith, nat_tests)

blank_low : (b : ℕ) → 45 ≤ b → is_blank b ≡ false
blank_low b h = grind (arith, nat_tests)

-- words as they are printed
abbrev pub AreWords : List (List ℕ) → Type 0
AreWords [] = Unit {0}
AreWords (t ∷ ts) = ((is_some_word t ≡ true) × High t) × AreWords ts

pub split-spaced : (cuts : ℕ → Bool) → ((b : ℕ) → 45 ≤ b → cuts b ≡ false) → cuts 32 ≡ true → (t : List ℕ) (ts : List (List ℕ)) → High t → AreWords ts
    → slice_split cuts (t ++ spaced ts) ≡ t ∷ ts
split-spaced cuts low space t [] h are = ap (slice_split cuts) (append-nil t) ∙ split-whole cuts t (high-misses cuts low t h)
split-spaced cuts low space t (u ∷ us) h are =
    split-before cuts t 32 (u ++ spaced us) (high-misses cuts low t h) space ∙ ap (λ (v : List (List ℕ)). t ∷ v) (split-spaced cuts low space u us are.0.1 are.1)

pub all-words : (ts : List (List ℕ)) → AreWords ts → filter is_some_word ts ≡ ts
all-words [] are = refl
all-words (t ∷ ts) are = rw are.0.0 (ap (λ (v : List (List ℕ)). t ∷ v) (all-words ts are.1))

spaced-misses : (cuts : ℕ → Bool) → ((b : ℕ) → 45 ≤ b → cuts b ≡ false) → cuts 32 ≡ false → (ts : List (List ℕ)) → AreWords ts → Misses cuts (spaced ts)
spaced-misses cuts low space [] are = tt
spaced-misses cuts low space (t ∷ ts) are =
    (space, misses-append cuts t (spaced ts) (high-misses cuts low t are.0.1) (spaced-misses cuts low space ts are.1))

pub line-misses : (cuts : ℕ → Bool) → ((b : ℕ) → 45 ≤ b → cuts b ≡ false) → cuts 32 ≡ false → (t : List ℕ) (ts : List (List ℕ)) → High t → AreWords ts → Misses cuts (t ++ spaced ts)
line-misses cuts low space t ts h are = misses-append cuts t (spaced ts) (high-misses cuts low t h) (spaced-misses cuts low space ts are)

pub some_word : (xs : List ℕ) → 0 < length xs → is_some_word xs ≡ true
some_word [] h = absurd (omega (arith, h))
some_word (b ∷ xs) h = refl

pub number-word : (n : ℕ) → n < 2 ^ 64 → (is_some_word (decimal n) ≡ true) × High (decimal n)
number-word n fits = (some_word (decimal n) (decimal_nonempty n fits), digits-high (decimal n) (decimal-digits n fits))

pub length-hex_text : (w : ℕ) → length (hex_text w) ≡ 18
unfolding hex_text
length-hex_text w = let long = length-hex 16 w in omega (arith, long)

-- a number is no note, and no call word that begins a line without a thread's number
no_note : (xs : List ℕ) → Digits xs → is_note xs ≡ false
no_note [] h = refl
no_note (b ∷ xs) h = let low : 48 ≤ b = h.0.0 in grind (arith, nat_tests)

not_lone : (xs : List ℕ) → Digits xs → is_among xs lone_words ≡ false
not_lone [] h = refl
not_lone (b ∷ xs) h =
    let high : b ≤ 57 = h.0.1 in
    let n : (b == 110) ≡ false = grind (arith, nat_tests) in
    let r : (b == 114) ≡ false = grind (arith, nat_tests) in
    rw (n, r) refl

-- the words of a thread's line, one line of several
module _ (thread : ℕ) (parts : List (List ℕ)) (fits : thread < 2 ^ 64) (are : AreWords parts) (few : length (decimal thread ++ spaced parts) ≤ 256) where
  line-read : line_of (decimal thread ++ spaced parts) ≡ Some (thread_line thread parts)
  line-read =
      let front = decimal thread ++ spaced parts in
      let short : nat_lt longest_line (length front) ≡ false = grind (arith, nat_tests) in
      let cut =
      ap (filter is_some_word) (split-spaced is_blank blank_low refl (decimal thread) parts (number-word thread fits).1 are)
      ∙ all-words (decimal thread ∷ parts) (number-word thread fits, are)
      in
      ap (λ v. if v then Some bad_line else line_of_words (words front)) short
      ∙ ap line_of_words cut
      ∙ ap (λ v. if v then None else Some (spelled_line (decimal thread) parts)) (no_note (decimal thread) (decimal-digits thread fits))
      ∙ ap (λ v. Some (if v then call_line 0 (decimal thread) parts else option_map_or (λ t. thread_line t parts) (number_of (decimal thread)) bad_line)) (not_lone (decimal thread) (decimal-digits thread fits))
      ∙ ap (λ o. Some (option_map_or (λ t. thread_line t parts) o bad_line)) (number_of-back thread fits)

  pub lines-read : (rest : List ℕ) → lines ((decimal thread ++ spaced parts) ++ 10 ∷ rest) ≡ thread_line thread parts ∷ lines rest
  lines-read rest =
      ap (filter_map line_of)
      (split-before is_newline (decimal thread ++ spaced parts) 10 rest (line-misses is_newline newline_low refl (decimal thread) parts (number-word thread fits).1 are) refl)
      ∙ ap (λ o. cons_option o (lines rest)) line-read

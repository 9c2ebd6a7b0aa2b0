-- Lemmas that crates above cite: numbers as they are printed are read back, and their bytes are no blanks.
use Rattle.std.proofs.Common.{◌≡◌, ℕ, zero, suc, ◌+◌, ◌*◌, ◌/◌, ◌%◌, ◌^◌, ◌<◌, ◌≤◌, List, [], ◌∷◌, ◌++◌, length, Option}
use Rattle.std.proofs.{Common.{Some, None, true, refl, ap, ◌∙◌, arith, length-append}, lemmas.Bool.Decides.nat_tests}
use Rattle.std.{proofs.lemmas.Fmt.{decimal_by_steps, decimal_nonempty, length-decimal-le}, specs.Fmt.decimal}
use Rattle.std.specs.Option.{option_map_or}
use Rattle.mg_model.specs.{Abbreviations.below_word, Print.{hex_digit, hex_digits, hex_text}, Words.and_then}
use Rattle.mg_model.specs.Words.{digit_of, hex_part, is_some_word, number_of, value_from, value_of_digits}

-- decimal digits
abbrev pub Digits : List ℕ → Type 0
Digits [] = Unit {0}
Digits (b ∷ bytes) = ((48 ≤ b) × (b ≤ 57)) × Digits bytes

pub digits-append : (xs ys : List ℕ) → Digits xs → Digits ys → Digits (xs ++ ys)
digits-append [] ys h k = k
digits-append (x ∷ xs) ys h k = (h.0, digits-append xs ys h.1 k)

pub decimal-digits : (n : ℕ) → n < 2 ^ 64 → Digits (decimal n)
decimal-digits n fits =
    decimal_by_steps (λ m ds. Digits ds) (λ m h. ((omega arith, omega arith), tt)) (λ m ds h ih. digits-append ds ((48 + m % 10) ∷ []) ih ((omega arith, omega arith), tt)) n fits

-- the value of digits, one digit more
value_from-append : (base n m : ℕ) (xs : List ℕ) (d : ℕ) → value_from base n xs ≡ Some m → value_from base n (xs ++ d ∷ []) ≡ and_then (digit_of base d) (λ v. Some (m * base + v))
value_from-append base n m [] d e = ap (λ o. and_then o (λ k. and_then (digit_of base d) (λ v. Some (k * base + v)))) e
value_from-append base n m (x ∷ xs) d e = by_digit (λ v. value_from-append base (n * base + v) m xs d) (digit_of base x) e
  where
    by_digit : ((v : ℕ) → value_from base (n * base + v) xs ≡ Some m → value_from base (n * base + v) (xs ++ d ∷ []) ≡ and_then (digit_of base d) (λ k. Some (m * base + k)))
        → (o : Option ℕ) → and_then o (λ v. value_from base (n * base + v) xs) ≡ Some m
        → and_then o (λ v. value_from base (n * base + v) (xs ++ d ∷ [])) ≡ and_then (digit_of base d) (λ v. Some (m * base + v))
    by_digit ih None e = absurd cc
    by_digit ih (Some v) e = ih v e

ten_digit : (d : ℕ) → d < 10 → digit_of 10 (48 + d) ≡ Some d
ten_digit d h = grind (arith, nat_tests)

pub value-decimal : (n : ℕ) → n < 2 ^ 64 → value_from 10 0 (decimal n) ≡ Some n
value-decimal n fits =
    decimal_by_steps (λ m ds. value_from 10 0 ds ≡ Some m) (λ m h. ap (λ o. and_then o (λ v. Some (0 * 10 + v))) (ten_digit m h) ∙ ap (λ k. Some k) (omega arith))
    (λ m ds h ih.
    value_from-append 10 0 (m / 10) ds (48 + m % 10) ih
    ∙ ap (λ o. and_then o (λ v. Some (m / 10 * 10 + v))) (ten_digit (m % 10) (omega arith))
    ∙ ap (λ k. Some k) (omega arith)) n fits

pub within : (base most n : ℕ) (xs : List ℕ) → 0 < length xs → length xs ≤ most → value_from base 0 xs ≡ Some n → n < 2 ^ 64 → below_word (value_of_digits base most xs) ≡ Some n
within base most n xs some few e fits = grind (arith, nat_tests)

-- digits are not 0x and more
no_hex : (xs : List ℕ) → Digits xs → hex_part xs ≡ None
no_hex [] h = refl
no_hex (a ∷ []) h = refl
no_hex (a ∷ b ∷ xs) h = let small : b ≤ 57 = h.1.0.1 in grind (arith, nat_tests)

pub number_of-back : (n : ℕ) → n < 2 ^ 64 → number_of (decimal n) ≡ Some n
number_of-back n fits =
    ap (λ o. below_word (option_map_or (λ digits. value_of_digits 16 16 digits) o (value_of_digits 10 20 (decimal n)))) (no_hex (decimal n) (decimal-digits n fits))
    ∙ within 10 20 n (decimal n) (decimal_nonempty n fits) (length-decimal-le 20 n (omega arith) (omega arith) fits) (value-decimal n fits) fits

-- hexadecimal digits
sixteen_digit : (d : ℕ) → d < 16 → digit_of 16 (hex_digit d) ≡ Some d
sixteen_digit d h = grind (arith, nat_tests)

value-hex : (k w : ℕ) → w < 16 ^ k → value_from 16 0 (hex_digits k w) ≡ Some w
value-hex zero w h = ap (λ n. Some n) (omega arith)
value-hex (suc k) w h =
    value_from-append 16 0 (w / 16) (hex_digits k (w / 16)) (hex_digit (w % 16)) (value-hex k (w / 16) (omega arith))
    ∙ ap (λ o. and_then o (λ v. Some (w / 16 * 16 + v))) (sixteen_digit (w % 16) (omega arith))
    ∙ ap (λ n. Some n) (omega arith)

pub length-hex : (k w : ℕ) → length (hex_digits k w) ≡ k
length-hex zero w = refl
length-hex (suc k) w = length-append (hex_digits k (w / 16)) (hex_digit (w % 16) ∷ []) ∙ (let e = length-hex k (w / 16) in omega arith)

pub number_of-hex : (w : ℕ) → w < 2 ^ 64 → number_of (hex_text w) ≡ Some w
unfolding hex_text
number_of-hex w fits =
    let long = length-hex 16 w in
    within 16 16 w (hex_digits 16 w) (omega arith) (omega arith) (value-hex 16 w fits) fits

-- bytes that are no blank and do not begin a note: all from - on
abbrev pub High : List ℕ → Type 0
High [] = Unit {0}
High (b ∷ bytes) = (45 ≤ b) × High bytes

pub digits-high : (xs : List ℕ) → Digits xs → High xs
digits-high [] h = tt
digits-high (b ∷ xs) h = (let low : 48 ≤ b = h.0.0 in omega arith, digits-high xs h.1)

pub high-append : (xs ys : List ℕ) → High xs → High ys → High (xs ++ ys)
high-append [] ys h k = k
high-append (x ∷ xs) ys h k = (h.0, high-append xs ys h.1 k)

high_digit : (d : ℕ) → 45 ≤ hex_digit d
high_digit d = grind (arith, nat_tests)

hex_high : (k w : ℕ) → High (hex_digits k w)
hex_high zero w = tt
hex_high (suc k) w = high-append (hex_digits k (w / 16)) (hex_digit (w % 16) ∷ []) (hex_high k (w / 16)) (high_digit (w % 16), tt)

pub hex-high : (w : ℕ) → High (hex_text w)
unfolding hex_text
hex-high w = (omega arith, (omega arith, hex_high 16 w))

pub hex-some : (w : ℕ) → is_some_word (hex_text w) ≡ true
unfolding hex_text
hex-some w = refl

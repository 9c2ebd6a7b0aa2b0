-- The numbers of a line of the assembler are read back as they are printed.
use Rattle.mg_asm.specs.{Printed.signed_text, Tokens.{below, decimal_of, distance_of, immediate_of, is_name, name_of, register_of, turned_back}}
use Rattle.{mg_model.specs.Words.and_then, mg_text.specs.NumberLemmas.{Digits, High, decimal-digits, digits-high, number_of-back, value-decimal}}
use Rattle.{mg_text.specs.NumberLemmas.within, std.proofs.Common.{◌≡◌, ℕ, ◌+◌, ◌-◌, ◌^◌, ◌<◌, ◌≤◌, ◌==◌, nat_lt, Bool, true, false, List, [], ◌∷◌}}
use Rattle.std.proofs.{Common.{length, Some, None, if◌then◌else◌, refl, ap, ◌∙◌, arith}, lemmas.{Bool.{lt-ltb, Decides.nat_tests}, Fmt.decimal_digit}}
use Rattle.std.{proofs.lemmas.Fmt.{decimal_nonempty, length-decimal-le}, specs.Fmt.decimal}

pub decimal_of-back : (n : ℕ) → n < 2 ^ 64 → decimal_of (decimal n) ≡ Some n
decimal_of-back n fits =
    within 10 20 n (decimal n) (decimal_nonempty n fits) (length-decimal-le 20 n (omega arith) (omega arith) fits) (value-decimal n fits) fits

pub immediate_of-back : (i : ℕ) → i < 2 ^ 32 → immediate_of (decimal i) ≡ Some i
immediate_of-back i fits = grind (arith, number_of-back, lt-ltb)

pub register_of-back : (a : ℕ) → a < 8 → register_of (decimal a) ≡ Some a
register_of-back a fits = ap register_of (decimal_digit a (omega arith)) ∙ one_digit
  where
    one_digit : register_of ((48 + a) ∷ []) ≡ Some a
    one_digit = grind (arith, nat_tests)

-- signed numbers
not_minus : (xs : List ℕ) → 0 < length xs → Digits xs → distance_of xs ≡ and_then (decimal_of xs) (below (2 ^ 31))
not_minus [] some h = absurd (omega (arith, some))
not_minus (b ∷ xs) some h = let large : 48 ≤ b = h.0.0 in let e : (b == 45) ≡ false = grind (arith, nat_tests) in rw e refl

signed_case : (i : ℕ) (v : Bool) → nat_lt i (2 ^ 31) ≡ v → i < 2 ^ 32 → distance_of (if v then decimal i else 45 ∷ decimal (2 ^ 32 - i)) ≡ Some i
signed_case i true e fits = grind (arith, not_minus, decimal_nonempty, decimal-digits, decimal_of-back)
signed_case i false e fits =
    let large : 2 ^ 31 ≤ i = grind (arith, nat_tests) in
    ap (λ o. and_then o turned_back) (decimal_of-back (2 ^ 32 - i) (omega arith)) ∙ turned i large fits
  where
    turned : (i : ℕ) → 2 ^ 31 ≤ i → i < 2 ^ 32 → turned_back (2 ^ 32 - i) ≡ Some i
    turned i large fits = grind (arith, nat_tests)

pub distance_of-back : (i : ℕ) → i < 2 ^ 32 → distance_of (signed_text i) ≡ Some i
distance_of-back i fits = signed_case i (nat_lt i (2 ^ 31)) refl fits

digits_no_name : (xs : List ℕ) → Digits xs → is_name xs ≡ false
digits_no_name [] h = refl
digits_no_name (b ∷ xs) h = let small : b ≤ 57 = h.0.1 in grind (arith, nat_tests)

signed_no_name : (i : ℕ) (v : Bool) → i < 2 ^ 32 → is_name (if v then decimal i else 45 ∷ decimal (2 ^ 32 - i)) ≡ false
signed_no_name i true fits = digits_no_name (decimal i) (decimal-digits i (omega arith))
signed_no_name i false fits = refl

pub name_of-signed : (i : ℕ) → i < 2 ^ 32 → name_of (signed_text i) ≡ None
name_of-signed i fits = rw (signed_no_name i (nat_lt i (2 ^ 31)) fits) refl

signed_high : (i : ℕ) (v : Bool) → nat_lt i (2 ^ 31) ≡ v → i < 2 ^ 32 → High (if v then decimal i else 45 ∷ decimal (2 ^ 32 - i))
signed_high i true e fits = digits-high (decimal i) (decimal-digits i (omega arith))
signed_high i false e fits = (omega arith, digits-high (decimal (2 ^ 32 - i)) (decimal-digits (2 ^ 32 - i) (omega arith)))

pub signed-high : (i : ℕ) → i < 2 ^ 32 → High (signed_text i)
signed-high i fits = signed_high i (nat_lt i (2 ^ 31)) refl fits

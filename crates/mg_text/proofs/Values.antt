-- The value of digits, one digit more, and when it leaves 64 bits.
use Rattle.{mg_model.specs.{Abbreviations.below_word, Words.{and_then, digit_of, value_from}}, std.proofs.Common.{◌≡◌, ℕ, ◌+◌, ◌*◌, ◌^◌, ◌<◌, ◌≤◌}}
use Rattle.std.proofs.{Common.{nat_lt, Bool, true, false, List, [], ◌∷◌, Some, None, if◌then◌else◌, refl, ap, arith}, Math.Nat.mul-le-mul_left}
use Rattle.std.proofs.{Math.Nat.pow-le-pow_right, lemmas.{Bool.{le-ltb, ltb-false, ltb-true, Decides.nat_tests}, Grind.pow_more}}

-- once past 64 bits, always past them
pub value_from-large : (base n : ℕ) (xs : List ℕ) → 0 < base → 2 ^ 64 ≤ n → below_word (value_from base n xs) ≡ None
value_from-large base n [] some large = ap (λ v. if v then Some n else None) (le-ltb n (2 ^ 64) large)
value_from-large base n (b ∷ xs) some large =
    elim (digit_of base b) as (λ o. below_word (and_then o (λ d. value_from base (n * base + d) xs)) ≡ None) [
      | None ↦ refl
      | Some d ↦ value_from-large base (n * base + d) xs some (let m = mul-le-mul_left n some in omega (arith, m))
    ]

-- what follows from a test against 64 bits
none_case : (n : ℕ) (v : Bool) → nat_lt n (2 ^ 64) ≡ v → None ≡ (if v then Some n else None) → 2 ^ 64 ≤ n
none_case n true t e = absurd cc
none_case n false t e = ltb-false n (2 ^ 64) t

pub below_word-none : (n : ℕ) → None ≡ below_word (Some n) → 2 ^ 64 ≤ n
below_word-none n e = none_case n (nat_lt n (2 ^ 64)) refl e

some_case : (n m : ℕ) (v : Bool) → nat_lt n (2 ^ 64) ≡ v → Some m ≡ (if v then Some n else None) → (n < 2 ^ 64) × (n ≡ m)
some_case n m true t e = (ltb-true n (2 ^ 64) t, cc)
some_case n m false t e = absurd cc

pub below_word-some : (n m : ℕ) → Some m ≡ below_word (Some n) → (n < 2 ^ 64) × (n ≡ m)
below_word-some n m e = some_case n m (nat_lt n (2 ^ 64)) refl e

-- before the last of 16 hexadecimal digits there is room for one more
pub hex-room : (n i : ℕ) → i < 16 → n < 16 ^ i → n < 2 ^ 60
hex-room n i few small = let most : 16 ^ i ≤ 16 ^ 15 = pow-le-pow_right {n = 16} (omega arith) {i = i} {j = 15} (omega (arith, few)) in omega (arith, most, small)

-- one hexadecimal digit more
digit-below : (base b d : ℕ) → Some d ≡ digit_of base b → d < 16
digit-below base b d e = grind (arith, nat_tests)

pub hex-more : (base b n i d : ℕ) → base ≡ 16 → Some d ≡ digit_of base b → n < 16 ^ i → n * base + d < 16 ^ (i + 1)
hex-more base b n i d hex digit small =
    let more = pow_more 16 i in let below = digit-below base b d digit in rw hex (omega (arith, more, below, small))

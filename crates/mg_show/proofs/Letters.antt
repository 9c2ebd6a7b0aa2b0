-- The rights by their bits: their letters, and six digits.
use Rattle.mg_model.specs.{Rights.{has_right, letters}, declared.rights.Right.{Right, TheVariants.{R, W, X, D, P, O}}}
use Rattle.{mg_show.specs.{ReachText.letters_by, StateText.rights_text}, std.proofs.Common.{◌≡◌, ℕ, ◌/◌, if◌then◌else◌, refl, ap, arith, ◌+◌, ◌*◌}}
use Rattle.std.{proofs.{Common.◌≤◌, lemmas.Bool.Decides.nat_tests}, specs.{List.list_any, Prelude.{◌%◌, ◌==◌, Bool, true, false, not}}}

pub none-has : (bits : ℕ) → bits % 64 ≡ 0 → (right : Right) → has_right bits right ≡ false
none-has bits none R = let e : bits / 1 % 2 ≡ 0 = omega arith in ap (λ n. n == 1) e
none-has bits none W = let e : bits / 2 % 2 ≡ 0 = omega arith in ap (λ n. n == 1) e
none-has bits none X = let e : bits / 4 % 2 ≡ 0 = omega arith in ap (λ n. n == 1) e
none-has bits none D = let e : bits / 8 % 2 ≡ 0 = omega arith in ap (λ n. n == 1) e
none-has bits none P = let e : bits / 16 % 2 ≡ 0 = omega arith in ap (λ n. n == 1) e
none-has bits none O = let e : bits / 32 % 2 ≡ 0 = omega arith in ap (λ n. n == 1) e

pub rights-letters : (bits : ℕ) → rights_text bits ≡ letters_by (has_right bits)
rights-letters bits = grind (arith, nat_tests)

-- Whether there is one

-- bits have a right unless the last six are 0
pub any-right : (bits : ℕ) → list_any (λ (l : ℕ × Right). has_right bits l.1) letters ≡ not (bits % 64 == 0)
any-right bits = grind (arith, nat_tests)

-- Bits by digits

-- the digit of a right, 1 where it passes
abbrev pub digit : Bool → ℕ
digit passes = if passes then 1 else 0

few : (v : Bool) → digit v ≤ 1
few true = omega arith
few false = omega arith

is_one : (v : Bool) → (digit v == 1) ≡ v
is_one true = refl
is_one false = refl

pub bits-are : (has : Right → Bool) (r w x d p o : ℕ) → r ≡ digit (has R) → w ≡ digit (has W) → x ≡ digit (has X) → d ≡ digit (has D) → p ≡ digit (has P) → o ≡ digit (has O)
    → (right : Right) → has_right (r + 2 * w + 4 * x + 8 * d + 16 * p + 32 * o) right ≡ has right
bits-are has r w x d p o hr hw hx hd hp ho R = grind (arith, few, is_one)
bits-are has r w x d p o hr hw hx hd hp ho W = grind (arith, few, is_one)
bits-are has r w x d p o hr hw hx hd hp ho X = grind (arith, few, is_one)
bits-are has r w x d p o hr hw hx hd hp ho D = grind (arith, few, is_one)
bits-are has r w x d p o hr hw hx hd hp ho P = grind (arith, few, is_one)
bits-are has r w x d p o hr hw hx hd hp ho O = grind (arith, few, is_one)

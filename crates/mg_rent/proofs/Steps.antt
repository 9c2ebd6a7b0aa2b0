-- The rate of a tariff, found step by step.
use Rattle.mg_model.specs.{Bank.rate_of, Limits.step_limit, StepwiseLemmas.{from_at, rate_at, rate_from, rate_of-from, tariff_places}}
use Rattle.{mg_model.specs.{SuperblockLemmas.tariff-four, Tariff.is_tariff}, std.proofs.Common.{◌≡◌, ℕ, zero, suc, ◌+◌, ◌<◌, ◌≤◌, ◌==◌, nat_le}}
use Rattle.std.proofs.Common.{nat_lt, ◌&&◌, Bool, true, false, cond, List, [], ◌∷◌, length, get_or, drop, refl, ap, sym, ◌∙◌, arith}
use Rattle.std.proofs.lemmas.{Bool.{and_parts, leb-true}, List.drop_all}

-- the next step holds, or the rate before it stays
pub rate-next : (before : ℕ) (steps : List (ℕ × ℕ)) (i : ℕ) (d : ℕ × ℕ) (pages : ℕ) → i < length steps
    → rate_from before (drop i steps) pages ≡ rate_from (cond (nat_le (get_or steps i d).0 pages) (get_or steps i d).1 before) (drop (suc i) steps) pages
rate-next before [] i d pages within = absurd (omega arith)
rate-next before (step ∷ steps) zero d pages within = refl
rate-next before (step ∷ steps) (suc i) d pages within = rate-next before steps i d pages (omega arith)

-- the tests of the rates after another
passed : (rise a b c d : Bool) → (rise && (a && b && c && d)) ≡ true → (a ≡ true) × (b ≡ true) × (c ≡ true) × (d ≡ true)
passed rise a b c d is =
    let parts = and_parts rise (a && b && c && d) is in
    let three = and_parts (a && b && c) d parts.1 in
    let two = and_parts (a && b) c three.0 in
    let one = and_parts a b two.0 in
    (one.0, one.1, two.1, three.1)

abbrev is_low : List (ℕ × ℕ) → ℕ → Bool
is_low steps k = nat_le (rate_at steps k) step_limit

-- four steps, none with a rate above the limit
pub record AreSteps (tariff : List (ℕ × ℕ)) : Type 0 where
  pub four : length tariff ≡ 4
  pub few : (k : ℕ) → k < 4 → (get_or tariff k (0, 0)).1 ≤ step_limit

pub tariff-steps : (tariff : List (ℕ × ℕ)) → is_tariff tariff ≡ true → AreSteps tariff
tariff-steps tariff is =
    let four = tariff-four tariff is in
    let tests =
    passed (from_at tariff 0 == 0 && nat_lt (from_at tariff 0) (from_at tariff 1) && nat_lt (from_at tariff 1) (from_at tariff 2) && nat_lt (from_at tariff 2) (from_at tariff 3) && nat_le (from_at tariff 3) step_limit) (is_low tariff 0)
    (is_low tariff 1) (is_low tariff 2) (is_low tariff 3) (sym (tariff_places tariff four) ∙ is) in
    record {
      four = four;
      few = λ k within. each k within (leb-true (rate_at tariff 0) step_limit tests.0) (leb-true (rate_at tariff 1) step_limit tests.1) (leb-true (rate_at tariff 2) step_limit tests.2) (leb-true (rate_at tariff 3) step_limit tests.3);
    }
  where
    each : (k : ℕ) → k < 4 → rate_at tariff 0 ≤ step_limit → rate_at tariff 1 ≤ step_limit → rate_at tariff 2 ≤ step_limit → rate_at tariff 3 ≤ step_limit → rate_at tariff k ≤ step_limit
    each zero within a b c d = a
    each (suc zero) within a b c d = b
    each (suc (suc zero)) within a b c d = c
    each (suc (suc (suc zero))) within a b c d = d
    each (suc (suc (suc (suc k)))) within a b c d = absurd (omega arith)

-- the rate after one step more
pub step-taken : (before rate : ℕ) (steps : List (ℕ × ℕ)) (i : ℕ) (d : ℕ × ℕ) (pages all : ℕ) → i < length steps → rate ≡ cond (nat_le (get_or steps i d).0 pages) (get_or steps i d).1 before → rate_from before (drop i steps) pages ≡ all → rate_from rate (drop (i + 1) steps) pages ≡ all
step-taken before rate steps i d pages all within is so_far =
    let e : i + 1 ≡ suc i = omega arith in
    ap (λ k. rate_from rate (drop k steps) pages) e ∙ ap (λ r. rate_from r (drop (suc i) steps) pages) is ∙ sym (rate-next before steps i d pages within) ∙ so_far

pub step-few : (before rate next : ℕ) (holds : Bool) → next ≡ cond holds rate before → rate ≤ step_limit → before ≤ step_limit → next ≤ step_limit
step-few before rate next true is low so_far = omega arith
step-few before rate next false is low so_far = omega arith

-- once all steps were looked at
pub rate-found : (rate i pages : ℕ) (steps tariff : List (ℕ × ℕ)) → length steps ≤ i → rate_from rate (drop i steps) pages ≡ rate_from 0 tariff pages → rate ≡ rate_of tariff pages
rate-found rate i pages steps tariff over so_far = ap (λ left. rate_from rate left pages) (sym (drop_all i steps over)) ∙ so_far ∙ sym (rate_of-from tariff pages)

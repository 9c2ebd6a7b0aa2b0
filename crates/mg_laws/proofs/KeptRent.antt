-- What a collection of rent keeps: no balance is lost, and no account owes more than its periods make.
use Rattle.{mg_laws.proofs.KeptAccounts.total, mg_model.specs.Bank.{all_charged, all_paid, charged, paid, pages_of, rate_of, used}}
use Rattle.mg_model.specs.{KeptListLemmas.sum_by-filter-le, Limits.step_limit, State.Object, StepwiseLemmas.{from_at, rate_at, rate_from}}
use Rattle.mg_model.specs.{StepwiseLemmas.rate_of-from, Tariff.is_tariff, WellFormed.IsAccount, declared.accounts.AccRow.AccRow}
use Rattle.std.proofs.Common.{◌≡◌, ℕ, zero, suc, ◌+◌, ◌*◌, ◌^◌, ◌<◌, ◌≤◌, ◌==◌, nat_le, nat_lt, ◌&&◌, Bool, true, cond, List, [], ◌∷◌, length, All}
use Rattle.std.proofs.{Common.{refl, ap, sym, subst, arith}, lemmas.{Bool.cond_both, List.Elements.{All-cons, All-from_get_or, All-head, All-nil}}}
use Rattle.std.proofs.lemmas.{List.{Elements.All-tail, Sums.sum_by-cons}, Nat.mul-le}

-- no rate of these steps is above the limit
abbrev pub AreRates : List (ℕ × ℕ) → Type 0
AreRates steps = All (λ (step : ℕ × ℕ). step.1 ≤ step_limit) steps

rate_from-few : (before : ℕ) (steps : List (ℕ × ℕ)) (pages : ℕ) → before ≤ step_limit → AreRates steps → rate_from before steps pages ≤ step_limit
rate_from-few before [] pages low rates = low
rate_from-few before (step ∷ steps) pages low rates =
    rate_from-few (cond (nat_le step.0 pages) step.1 before) steps pages
    (cond_both (nat_le step.0 pages) step.1 before (λ rate. rate ≤ step_limit) (λ _. All-head (λ (step : ℕ × ℕ). step.1 ≤ step_limit) step steps rates) (λ _. low))
    (All-tail (λ (step : ℕ × ℕ). step.1 ≤ step_limit) step steps rates)

-- the two tests of a tariff's steps
abbrev rise : List (ℕ × ℕ) → Bool
rise steps = from_at steps 0 == 0 && nat_lt (from_at steps 0) (from_at steps 1) && nat_lt (from_at steps 1) (from_at steps 2) && nat_lt (from_at steps 2) (from_at steps 3) && nat_le (from_at steps 3) step_limit

-- the four rates
record AreLow (tariff : List (ℕ × ℕ)) : Type 0 where
  four : length tariff ≡ 4
  first : rate_at tariff 0 ≤ step_limit
  second : rate_at tariff 1 ≤ step_limit
  third : rate_at tariff 2 ≤ step_limit
  fourth : rate_at tariff 3 ≤ step_limit

tariff-low : (tariff : List (ℕ × ℕ)) → is_tariff tariff ≡ true → AreLow tariff
tariff-low tariff is = grind arith

rate_at-few : (tariff : List (ℕ × ℕ)) → AreLow tariff → (k : ℕ) → k < length tariff → rate_at tariff k ≤ step_limit
rate_at-few tariff low zero within = low.first
rate_at-few tariff low (suc zero) within = low.second
rate_at-few tariff low (suc (suc zero)) within = low.third
rate_at-few tariff low (suc (suc (suc zero))) within = low.fourth
rate_at-few tariff low (suc (suc (suc (suc k)))) within = let four = low.four in absurd (omega arith)

pub rate_of-few : (tariff : List (ℕ × ℕ)) (pages : ℕ) → is_tariff tariff ≡ true → rate_of tariff pages ≤ step_limit
rate_of-few tariff pages is = subst (λ rate. rate ≤ step_limit) (sym (rate_of-from tariff pages)) (rate_from-few 0 tariff pages (omega arith) (All-from_get_or (λ (step : ℕ × ℕ). step.1 ≤ step_limit) tariff (0, 0) (rate_at-few tariff (tariff-low tariff is))))

-- what one account owes for a period
pub due-few : (objects : List Object) (rate number : ℕ) → used objects ≤ 65536 → rate ≤ step_limit → rate * pages_of objects number ≤ 2 ^ 36
due-few objects rate number few low = grind (arith, sum_by-filter-le, mul-le)

-- an account after it paid
charged-formed : (period due : ℕ) (row : AccRow) → due ≤ 2 ^ 36 → IsAccount period row → IsAccount (period + 1) (charged row due)
charged-formed period due row few formed = grind arith

-- all accounts after they paid
pub all_charged-each : (objects : List Object) (rate period : ℕ) → ((number : ℕ) → rate * pages_of objects number ≤ 2 ^ 36) → (number : ℕ) (rows : List AccRow) → All (IsAccount period) rows → All (IsAccount (period + 1)) (all_charged objects rate number rows)
all_charged-each objects rate period few number [] each = All-nil (IsAccount (period + 1))
all_charged-each objects rate period few number (row ∷ rows) each =
    grind (arith, (all_charged-each objects rate period few (number + 1) rows (All-tail (IsAccount period) row rows each)), All-cons, charged-formed, All-head, All-tail)

pub length-all_charged : (objects : List Object) (rate number : ℕ) (rows : List AccRow) → length (all_charged objects rate number rows) ≡ length rows
length-all_charged objects rate number [] = refl
length-all_charged objects rate number (row ∷ rows) = ap suc (length-all_charged objects rate (number + 1) rows)

-- what the accounts have left and what they paid is what they had
pub all_charged-total : (objects : List Object) (rate number : ℕ) (rows : List AccRow) → total (all_charged objects rate number rows) + all_paid objects rate number rows ≡ total rows
all_charged-total objects rate number [] = refl
all_charged-total objects rate number (row ∷ rows) =
    let due = rate * pages_of objects number in
    let rest = all_charged-total objects rate (number + 1) rows in
    let one : (charged row due).balance + paid row due ≡ row.balance = balance_split row due in
    omega (arith, sum_by-cons (λ (r : AccRow). r.balance) (charged row due) (all_charged objects rate (number + 1) rows), sum_by-cons (λ (r : AccRow). r.balance) row rows)
  where
    balance_split : (r : AccRow) (d : ℕ) → (charged r d).balance + paid r d ≡ r.balance
    balance_split r d = omega arith

-- Lemmas that crates above cite: accounts by their numbers.
use Rattle.std.proofs.Common.{◌≡◌, ℕ, zero, suc, ◌-◌, ◌≤◌, true, List, length, get_or, Option, Some, None, is_some}
use Rattle.std.proofs.{Common.{refl, ap, ◌∙◌, arith}, lemmas.Option.{get_or_from_slice_get, slice_get_within}}
use Rattle.mg_model.specs.{Bank.account_of, declared.accounts.AccRow.AccRow}

-- account `number` has this row
pub record IsRowOf (accounts : List AccRow) (number : ℕ) (row : AccRow) : Type 0 where
  pub some : 1 ≤ number
  pub within : number ≤ length accounts
  pub there : (d : AccRow) → get_or accounts (number - 1) d ≡ row

pub account_of-row : (accounts : List AccRow) (number : ℕ) (row : AccRow) → account_of accounts number ≡ Some row → IsRowOf accounts number row
account_of-row accounts zero row is = absurd (cc)
account_of-row accounts (suc place) row is =
    let within = slice_get_within accounts place row is in
    let e : suc place - 1 ≡ place = omega arith in
    record { some = omega arith; within = omega arith; there = λ d. ap (λ k. get_or accounts k d) e ∙ get_or_from_slice_get accounts place row d is }

-- when there is a value
pub some_value : {X : Type 0} (o : Option X) → is_some o ≡ true → (x : X) × (o ≡ Some x)
some_value None passes = absurd (cc)
some_value (Some x) passes = (x, refl)

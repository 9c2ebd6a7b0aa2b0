-- Lemmas on accounts by their numbers, and on their credits.
use Rattle.std.proofs.Common.{◌≡◌, ℕ, zero, suc, ◌+◌, ◌-◌, ◌≤◌, true, List, length, get_or, Option, Some, None, is_some}
use Rattle.std.proofs.{Common.{refl, ap, ◌∙◌, arith}, lemmas.List.{length-set, Sums.sum_by-set}}
use Rattle.std.{proofs.lemmas.Option.slice_get-get_or, specs.Option.option_map_or}
use Rattle.{mg_bank.specs.Bank.credits_of, mg_model.specs.{Abbreviations.with_account, AccountLemmas.IsRowOf}}
use Rattle.mg_model.specs.{AccountLemmas.{account_of-row, some_value}, Bank.{account_of, balance_of, credited, debited}}
use Rattle.mg_model.specs.declared.accounts.AccRow.{AccRow}

-- the row of each number up to their count
pub account_of-at : (accounts : List AccRow) (number : ℕ) (d : AccRow) → 1 ≤ number → number ≤ length accounts → account_of accounts number ≡ Some (get_or accounts (number - 1) d)
account_of-at accounts zero d some within = absurd (omega arith)
account_of-at accounts (suc place) d some within =
    let e : place ≡ suc place - 1 = omega arith in
    slice_get-get_or accounts place d (omega arith) ∙ ap (λ k. Some (get_or accounts k d)) e

-- an account that is there, with its row
pub record HasRow (accounts : List AccRow) (number : ℕ) : Type 0 where
  pub row : AccRow
  pub is : account_of accounts number ≡ Some row
  pub at : IsRowOf accounts number row

pub account_there : (accounts : List AccRow) (number : ℕ) → is_some (account_of accounts number) ≡ true → HasRow accounts number
account_there accounts number there =
    let found = some_value (account_of accounts number) there in
    record { row = found.0; is = found.1; at = account_of-row accounts number found.0 found.1 }

-- when the row of an account is written, the credits change by its balance
pub with_account-credits : (accounts : List AccRow) (number : ℕ) (row new : AccRow) → IsRowOf accounts number row → credits_of (with_account accounts number new) + row.balance ≡ credits_of accounts + new.balance
with_account-credits accounts number row new is =
    let within = is.within in
    let some = is.some in
    let there : (get_or accounts (number - 1) row).balance ≡ row.balance = ap (λ (r : AccRow). r.balance) (is.there row) in
    omega (arith, sum_by-set (λ (r : AccRow). r.balance) accounts (number - 1) new row (omega arith))

-- what an account has and owes
pub balance_of-row : (accounts : List AccRow) (number : ℕ) (row : AccRow) → account_of accounts number ≡ Some row → balance_of accounts number ≡ row.balance
balance_of-row accounts number row is = ap (λ (o : Option AccRow). option_map_or (λ (r : AccRow). r.balance) o 0) is

-- what is taken and given leaves as many accounts
pub length-taken : (accounts : List AccRow) (number amount : ℕ) → length (debited accounts number amount) ≡ length accounts
length-taken accounts number amount = at (account_of accounts number)
  where
    at : (o : Option AccRow) → length (option_map_or (λ (r : AccRow). with_account accounts number (record r { balance = r.balance - amount })) o accounts) ≡ length accounts
    at None = refl
    at (Some row) = length-set accounts (number - 1) (record row { balance = row.balance - amount })

pub length-given : (accounts : List AccRow) (number amount : ℕ) → length (credited accounts number amount) ≡ length accounts
length-given accounts number amount = at (account_of accounts number)
  where
    at : (o : Option AccRow) → length (option_map_or (λ (r : AccRow). with_account accounts number (record r { balance = r.balance + amount })) o accounts) ≡ length accounts
    at None = refl
    at (Some row) = length-set accounts (number - 1) (record row { balance = row.balance + amount })

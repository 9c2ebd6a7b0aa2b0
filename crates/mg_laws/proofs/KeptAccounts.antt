-- What an edit of the accounts keeps: each is well formed, and what one account gives another gets.
use Rattle.mg_model.specs.{Abbreviations.with_account, AccountLemmas.{IsRowOf, account_of-row, some_value}, Bank.{account_of, balance_of, credited}}
use Rattle.{mg_model.specs.{Bank.{opens, debited}, WellFormed.IsAccount, declared.accounts.AccRow.AccRow}, std.proofs.Common.{◌≡◌, ℕ, zero, suc, ◌+◌}}
use Rattle.std.proofs.Common.{◌-◌, ◌≤◌, ◌==◌, Bool, true, false, List, [], ◌∷◌, length, get_or, sum_by, All, Option, Some, None, is_some, refl, ap}
use Rattle.std.proofs.{Common.{subst, arith}, lemmas.{List.{length-set, Elements.All-set, Sums.sum_by-set}, Option.slice_get-get_or}}
use Rattle.std.specs.Option.{option_map_or}

-- each number up to their count is an account's
pub account_of-there : (accounts : List AccRow) (number : ℕ) → 1 ≤ number → number ≤ length accounts → is_some (account_of accounts number) ≡ true
account_of-there accounts zero some within = absurd (omega arith)
account_of-there [] (suc place) some within = absurd (omega arith)
account_of-there (row ∷ accounts) (suc place) some within = ap is_some (slice_get-get_or (row ∷ accounts) place row (omega arith))

-- if a test on a value passes, there is a value
tested : {X : Type 0} (test : X → Bool) (o : Option X) → option_map_or test o false ≡ true → (x : X) × (o ≡ Some x)
tested test None passes = absurd (cc)
tested test (Some x) passes = (x, refl)

-- an account that a password opens is there
pub opens-row : (accounts : List AccRow) (number password : ℕ) → opens accounts number password ≡ true → (row : AccRow) × (account_of accounts number ≡ Some row)
opens-row accounts number password opened = tested (λ (row : AccRow). row.password == password) (account_of accounts number) opened

pub opens-number : (accounts : List AccRow) (number password : ℕ) → opens accounts number password ≡ true → (1 ≤ number) × (number ≤ length accounts)
opens-number accounts number password opened = grind (arith, opens-row, account_of-row)

-- what all accounts have together
abbrev pub total : List AccRow → ℕ
total accounts = sum_by (λ (row : AccRow). row.balance) accounts

-- accounts after an edit that took some credits from them and gave them some
pub record IsEdited (period : ℕ) (accounts after : List AccRow) (taken given : ℕ) : Type 0 where
  pub long : length after ≡ length accounts
  pub each : All (IsAccount period) after
  pub sum : total after + taken ≡ total accounts + given

with_account-edits : (period : ℕ) (accounts : List AccRow) (number : ℕ) (row new : AccRow) (taken given : ℕ) → IsRowOf accounts number row → IsAccount period new → new.balance + taken ≡ row.balance + given → All (IsAccount period) accounts → IsEdited period accounts (with_account accounts number new) taken given
with_account-edits period accounts number row new taken given is formed moved each =
    let within = is.within in
    let some = is.some in
    let there : (get_or accounts (number - 1) row).balance ≡ row.balance = ap (λ (r : AccRow). r.balance) (is.there row) in
    record {
      long = length-set accounts (number - 1) new;
      each = All-set (IsAccount period) accounts (number - 1) new formed each;
      sum = omega (arith, sum_by-set (λ (r : AccRow). r.balance) accounts (number - 1) new row (omega arith));
    }

row-formed : (period : ℕ) (accounts : List AccRow) (number : ℕ) (row : AccRow) → IsRowOf accounts number row → All (IsAccount period) accounts → IsAccount period row
row-formed period accounts number row is each = let within = is.within in let some = is.some in subst (IsAccount period) (is.there row) (each (number - 1) row (omega arith))

-- an amount that an account has is taken from it
taken_at : (period : ℕ) (accounts : List AccRow) (number amount : ℕ) (o : Option AccRow) → account_of accounts number ≡ o → is_some o ≡ true → amount ≤ option_map_or (λ (row : AccRow). row.balance) o 0 → All (IsAccount period) accounts
    → IsEdited period accounts (option_map_or (λ (row : AccRow). with_account accounts number (record row { balance = row.balance - amount })) o accounts) amount 0
taken_at period accounts number amount None is some has each = absurd (cc)
taken_at period accounts number amount (Some row) is some has each =
    let at = account_of-row accounts number row is in
    let formed = row-formed period accounts number row at each in
    with_account-edits period accounts number row (record row { balance = row.balance - amount }) amount 0 at (record { password = formed.password; owed = formed.owed }) (omega arith) each

pub debited-edits : (period : ℕ) (accounts : List AccRow) (number amount : ℕ) → is_some (account_of accounts number) ≡ true → amount ≤ balance_of accounts number → All (IsAccount period) accounts → IsEdited period accounts (debited accounts number amount) amount 0
debited-edits period accounts number amount some has each = taken_at period accounts number amount (account_of accounts number) refl some has each

-- an amount is given to an account
given_at : (period : ℕ) (accounts : List AccRow) (number amount : ℕ) (o : Option AccRow) → account_of accounts number ≡ o → is_some o ≡ true → All (IsAccount period) accounts
    → IsEdited period accounts (option_map_or (λ (row : AccRow). with_account accounts number (record row { balance = row.balance + amount })) o accounts) 0 amount
given_at period accounts number amount None is some each = absurd (cc)
given_at period accounts number amount (Some row) is some each =
    let at = account_of-row accounts number row is in
    let formed = row-formed period accounts number row at each in
    with_account-edits period accounts number row (record row { balance = row.balance + amount }) 0 amount at (record { password = formed.password; owed = formed.owed }) (omega arith) each

pub credited-edits : (period : ℕ) (accounts : List AccRow) (number amount : ℕ) → is_some (account_of accounts number) ≡ true → All (IsAccount period) accounts → IsEdited period accounts (credited accounts number amount) 0 amount
credited-edits period accounts number amount some each = given_at period accounts number amount (account_of accounts number) refl some each

-- from one account to another, which may be the same
pub paid-edits : (period : ℕ) (accounts : List AccRow) (number to amount : ℕ) → is_some (account_of accounts number) ≡ true → is_some (account_of accounts to) ≡ true → amount ≤ balance_of accounts number → All (IsAccount period) accounts → IsEdited period accounts (credited (debited accounts number amount) to amount) 0 0
paid-edits period accounts number to amount some there has each =
    let first = debited-edits period accounts number amount some has each in
    let receiver = some_value (account_of accounts to) there in
    let is = account_of-row accounts to receiver.0 receiver.1 in
    let low = is.some in
    let high = is.within in
    let long = first.long in
    let sum = first.sum in
    let second = credited-edits period (debited accounts number amount) to amount (account_of-there (debited accounts number amount) to low (omega arith)) first.each in
    let long_then = second.long in
    let sum_then = second.sum in
    record { long = omega arith; each = second.each; sum = omega arith }

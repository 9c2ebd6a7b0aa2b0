-- Accounts, pages and rent.
use Rattle.std.specs.{Option.option_map_or, Prelude.{ℕ, zero, suc, ◌+◌, ◌-◌, ◌*◌, ◌==◌, nat_le, min, Bool, false, List}}
use Rattle.std.specs.Prelude.{[], ◌∷◌, filter, find, reverse, sum_by, slice_get, slice_set, Option, None}
use Rattle.mg_model.specs.{State.{State, Object}, declared.accounts.AccRow.AccRow}

-- the account with this number, from 1
abbrev pub account_of : List AccRow → ℕ → Option AccRow
account_of accounts zero = None
account_of accounts (suc place) = slice_get accounts place

-- whether this password opens the account
abbrev pub opens : List AccRow → ℕ → ℕ → Bool
opens accounts number password = option_map_or (λ (row : AccRow). row.password == password) (account_of accounts number) false

abbrev pub balance_of : List AccRow → ℕ → ℕ
balance_of accounts number = option_map_or (λ (row : AccRow). row.balance) (account_of accounts number) 0

abbrev pub owed_by : List AccRow → ℕ → ℕ
owed_by accounts number = option_map_or (λ (row : AccRow). row.owed) (account_of accounts number) 0

-- the accounts with a change of the balance of one, if there is such an account
abbrev pub with_balance : List AccRow → ℕ → (ℕ → ℕ) → List AccRow
with_balance accounts number change =
    option_map_or (λ (row : AccRow). slice_set accounts (number - 1) (record row { balance = change row.balance }))
    (account_of accounts number) accounts

-- the accounts after one paid an amount, and after one got it
abbrev pub debited : List AccRow → ℕ → ℕ → List AccRow
debited accounts number amount = with_balance accounts number (λ balance. balance - amount)

abbrev pub credited : List AccRow → ℕ → ℕ → List AccRow
credited accounts number amount = with_balance accounts number (λ balance. balance + amount)

-- how many pages the objects have together
abbrev pub used : List Object → ℕ
used objects = sum_by (λ (object : Object). object.row.pages) objects

-- how many pages an account pays for
abbrev pub pages_of : List Object → ℕ → ℕ
pages_of objects number = used (filter (λ (object : Object). object.row.account == number) objects)

-- the rate of the last step that holds when this number of pages is in use
abbrev pub rate_of : List (ℕ × ℕ) → ℕ → ℕ
rate_of tariff pages = option_map_or (λ (step : ℕ × ℕ). step.1) (find (λ (step : ℕ × ℕ). nat_le step.0 pages) (reverse tariff)) 0

-- what an account pays of what is due: all that it has, at most
abbrev pub paid : AccRow → ℕ → ℕ
paid row due = min row.balance (row.owed + due)

-- the account after that: it owes what it could not pay
abbrev pub charged : AccRow → ℕ → AccRow
charged row due = record row { balance = row.balance - paid row due; owed = row.owed + due - paid row due }

-- the accounts from a number on, each charged the rate for each page that it pays for
abbrev pub all_charged : List Object → ℕ → ℕ → List AccRow → List AccRow
all_charged objects rate number [] = []
all_charged objects rate number (row ∷ rows) = charged row (rate * pages_of objects number) ∷ all_charged objects rate (number + 1) rows

-- the sum of what they pay
abbrev pub all_paid : List Object → ℕ → ℕ → List AccRow → ℕ
all_paid objects rate number [] = 0
all_paid objects rate number (row ∷ rows) = paid row (rate * pages_of objects number) + all_paid objects rate (number + 1) rows

-- the rate of the rent now
abbrev pub rate_now : State → ℕ
rate_now state = rate_of state.settings.tariff (used state.objects)

-- the sum of what all accounts pay now
abbrev pub rent_paid : State → ℕ
rent_paid state = all_paid state.objects (rate_now state) 1 state.accounts

-- the accounts after a collection: all are charged from the state before it, and the treasury, account 1, gets the sum
abbrev pub rent_accounts : State → List AccRow
rent_accounts state = credited (all_charged state.objects (rate_now state) 1 state.accounts) 1 (rent_paid state)

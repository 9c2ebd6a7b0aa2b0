-- The calls on accounts, and the collection of rent.
use Rattle.std.specs.Prelude.{ℕ, ◌+◌, ◌==◌, ◌||◌, nat_le, nat_lt, not, [], ◌∷◌, ◌++◌, length, is_some}
use Rattle.mg_model.specs.Bank.{account_of, balance_of, credited, opens, owed_by, pages_of, rate_now, rent_accounts}
use Rattle.mg_model.specs.{Bank.{rent_paid, debited}, ObjectCalls.{all_drawn, drawn, next_password}, Refused.Answer}
use Rattle.mg_model.specs.{Refused.checked, State.State, declared.limits.TheConstants.ACCOUNT_LIMIT as account_limit}
use Rattle.mg_model.specs.declared.limits.TheConstants.{PERIOD_LIMIT as period_limit}
use Rattle.mg_model.specs.declared.replies.Refusal.TheVariants.{Account, Credit, Limit, Calendar}
use Rattle.mg_model.specs.declared.replies.Reply.TheVariants.{Done, Opened, Funds, Collected}

-- `account ACC PW N`
abbrev pub open_account : State → ℕ → ℕ → ℕ → Answer
open_account state account password amount =
    checked state (
    (not (opens state.accounts account password), Account)
    ∷ (nat_lt (balance_of state.accounts account) amount, Credit)
    ∷ (nat_le account_limit (length state.accounts) || all_drawn state, Limit)
    ∷ []) (
      record (drawn state) {
        accounts = debited state.accounts account amount
            ++ record { password = next_password state; balance = amount; owed = 0 } ∷ [];
      },
      Opened (length state.accounts + 1) (next_password state),
    )

-- `pay ACC PW TO N`
abbrev pub pay : State → ℕ → ℕ → ℕ → ℕ → Answer
pay state account password to amount =
    checked state (
    (not (opens state.accounts account password) || not (is_some (account_of state.accounts to)), Account)
    ∷ (nat_lt (balance_of state.accounts account) amount, Credit)
    ∷ [])
    (record state { accounts = credited (debited state.accounts account amount) to amount }, Done)

-- `balance ACC PW`
abbrev pub balance : State → ℕ → ℕ → Answer
balance state account password =
    checked state ((not (opens state.accounts account password), Account) ∷ [])
    (state, Funds (balance_of state.accounts account) (owed_by state.accounts account) (pages_of state.objects account))

-- `rent`
abbrev pub rent : State → Answer
rent state =
    let period = state.counters.period in
    checked state ((period == period_limit, Calendar) ∷ []) (
      record state { counters = record state.counters { period = period + 1 }; accounts = rent_accounts state },
      Collected (period + 1) (rate_now state) (rent_paid state),
    )

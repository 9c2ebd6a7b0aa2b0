-- Why accounts refuse, the first reason against it, and what holds if there is none.
use Rattle.std.specs.Prelude.{◌≡◌, ◌≤◌, ◌<◌, ◌||◌, ◌∷◌, [], ℕ, List, true, nat_le, nat_lt, not, length, is_some, Option}
use Rattle.mg_model.specs.{Bank.{account_of, balance_of, opens}, Limits.account_limit, Refused.first_refusal}
use Rattle.mg_model.specs.declared.{accounts.AccRow.AccRow, replies.Refusal.{Refusal, TheVariants.{Account, Credit}}}
use Rattle.mg_model.specs.declared.replies.Refusal.TheVariants.{Limit}

-- against an account more
abbrev pub opening_refusal : List AccRow → ℕ → ℕ → ℕ → Option Refusal
opening_refusal accounts account password amount =
    first_refusal (
    (not (opens accounts account password), Account)
    ∷ (nat_lt (balance_of accounts account) amount, Credit)
    ∷ (nat_le account_limit (length accounts), Limit)
    ∷ [])

pub record MayOpen (accounts : List AccRow) (account amount : ℕ) : Type 0 where
  pub some : 1 ≤ account
  pub within : account ≤ 1024
  pub there : is_some (account_of accounts account) ≡ true
  pub enough : amount ≤ balance_of accounts account
  pub few : length accounts < account_limit

-- against a payment
abbrev pub paying_refusal : List AccRow → ℕ → ℕ → ℕ → ℕ → Option Refusal
paying_refusal accounts account password to amount =
    first_refusal (
    (not (opens accounts account password) || not (is_some (account_of accounts to)), Account)
    ∷ (nat_lt (balance_of accounts account) amount, Credit)
    ∷ [])

pub record MayPay (accounts : List AccRow) (account to amount : ℕ) : Type 0 where
  pub some : 1 ≤ account
  pub within : account ≤ 1024
  pub there : is_some (account_of accounts account) ≡ true
  pub to_some : 1 ≤ to
  pub to_within : to ≤ 1024
  pub receiver : is_some (account_of accounts to) ≡ true
  pub enough : amount ≤ balance_of accounts account

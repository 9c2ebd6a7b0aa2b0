-- The credits of accounts, and what a bank keeps.
use Rattle.std.specs.{List.slice_index_or, Prelude.{◌≡◌, ◌≤◌, ℕ, List, length, sum_by}}
use Rattle.mg_model.specs.{Limits.{account_limit, credit_limit}, declared.accounts.AccRow.AccRow}

-- what accounts have together
abbrev pub credits_of : List AccRow → ℕ
credits_of accounts = sum_by (λ (row : AccRow). row.balance) accounts

-- the accounts, and the pages that each number pays for: those of account n in place n
pub record BankHeld : Type 0 where
  pub accounts : List AccRow
  pub pages : List ℕ

-- how many pages account n pays for
abbrev pub pages_at : List ℕ → ℕ → ℕ
pages_at pages n = slice_index_or pages n 0

-- accounts in room for as many as there may be, with no more credits than a volume may be made with, and a place for the pages of
-- each
pub record IsBank (accounts : List AccRow) (capacity : ℕ) (pages : List ℕ) : Type 0 where
  pub few : length accounts ≤ account_limit
  pub room : account_limit ≤ capacity
  pub credits : credits_of accounts ≤ credit_limit
  pub places : length pages ≡ 1025

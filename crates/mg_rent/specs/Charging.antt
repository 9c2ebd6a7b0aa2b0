-- One account that is charged, and what accounts owe.
use Rattle.std.specs.{Option.option_map_or, Prelude.{◌≡◌, ◌≤◌, ℕ, All, List, length}}
use Rattle.{mg_bank.specs.Bank.{BankHeld, credits_of, pages_at}, mg_model.specs.Abbreviations.with_account}
use Rattle.mg_model.specs.{Bank.{account_of, all_charged, all_paid, charged, credited, paid, pages_of}, State.Object}
use Rattle.mg_model.specs.declared.accounts.AccRow.{AccRow}

-- the accounts after one of them was charged what is due
abbrev pub charged_at : List AccRow → ℕ → ℕ → List AccRow
charged_at accounts number due = option_map_or (λ (row : AccRow). with_account accounts number (charged row due)) (account_of accounts number) accounts

-- what it paid
abbrev pub paid_at : List AccRow → ℕ → ℕ → ℕ
paid_at accounts number due = option_map_or (λ (row : AccRow). paid row due) (account_of accounts number) 0

-- none owes more than this
abbrev pub OweAtMost : ℕ → List AccRow → Type 0
OweAtMost most accounts = All (λ (row : AccRow). row.owed ≤ most) accounts

-- each account pays for the pages of objects that a bank keeps for it
abbrev pub ArePagesOf : List Object → List ℕ → Type 0
ArePagesOf objects pages = (n : ℕ) → pages_at pages n ≡ pages_of objects n

-- what a collection for these objects makes of the accounts, and the sum of what was paid
pub record Collects (objects : List Object) (rate : ℕ) (old new : List AccRow) (sum : ℕ) : Type 0 where
  pub accounts : new ≡ credited (all_charged objects rate 1 old) 1 (all_paid objects rate 1 old)
  pub paid : sum ≡ all_paid objects rate 1 old

-- no credit comes or goes, no account does, and each pays for as many pages
pub record KeepsCredits (old new : BankHeld) : Type 0 where
  pub sum : credits_of new.accounts ≡ credits_of old.accounts
  pub count : length new.accounts ≡ length old.accounts
  pub pages : new.pages ≡ old.pages

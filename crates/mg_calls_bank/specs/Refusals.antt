-- When an account may be opened, by what is held.
use Rattle.std.specs.Prelude.{◌≡◌, ◌<◌, ◌||◌, ◌∷◌, [], ℕ, nat_le, nat_lt, not, length, Option, None}
use Rattle.mg_model.specs.{Bank.{balance_of, opens}, Limits.{account_limit, draw_limit}, Refused.first_refusal}
use Rattle.mg_model.specs.declared.replies.Refusal.{Refusal, TheVariants.{Account, Credit, Limit}}
use Rattle.mg_volume.specs.{Held.VolumeHeld, Meaning.{accounts_in, counters_in}}
use Rattle.mg_bank.specs.Refusals as bank

-- the first reason against an account more
abbrev pub opening_refusal : VolumeHeld → ℕ → ℕ → ℕ → Option Refusal
opening_refusal v account password amount =
    first_refusal (
    (not (opens (accounts_in v) account password), Account)
    ∷ (nat_lt (balance_of (accounts_in v) account) amount, Credit)
    ∷ (nat_le account_limit (length (accounts_in v)) || nat_le draw_limit (counters_in v).draws, Limit)
    ∷ [])

-- what holds if there is none
pub record MayOpen (v : VolumeHeld) (account password amount : ℕ) : Type 0 where
  pub accepted : bank.opening_refusal (accounts_in v) account password amount ≡ None
  pub draws : (counters_in v).draws < draw_limit

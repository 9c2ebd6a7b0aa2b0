-- When an object may be made, by what is held.
use Rattle.std.specs.Prelude.{◌+◌, ◌<◌, ◌≤◌, ◌==◌, ◌||◌, ◌∷◌, [], ℕ, nat_le, nat_lt, not, length, sum_by, Option}
use Rattle.mg_model.specs.{Bank.{opens, owed_by}, Limits.{account_limit, draw_limit, object_limit, object_page_limit}}
use Rattle.mg_model.specs.{Refused.first_refusal, State.ObjectRow, declared.replies.Refusal.Refusal}
use Rattle.mg_model.specs.declared.replies.Refusal.TheVariants.{Account, Debt, Full, Limit, Size}
use Rattle.mg_volume.specs.{Held.VolumeHeld, Meaning.{accounts_in, counters_in, objects_in, settings_in}}

-- how many pages the objects have
abbrev pub used_in : VolumeHeld → ℕ
used_in v = sum_by (λ (row : ObjectRow). row.pages) (objects_in v)

-- the first reason against it
abbrev pub creating_refusal : VolumeHeld → ℕ → ℕ → ℕ → Option Refusal
creating_refusal v n account password =
    first_refusal (
    (n == 0 || nat_lt object_page_limit n, Size)
    ∷ (not (opens (accounts_in v) account password), Account)
    ∷ (nat_lt 0 (owed_by (accounts_in v) account), Debt)
    ∷ (nat_le object_limit (length (objects_in v)) || nat_le draw_limit (counters_in v).draws, Limit)
    ∷ (nat_lt (settings_in v).frames (used_in v + n), Full)
    ∷ [])

-- what holds if there is none
pub record IsRoom (v : VolumeHeld) (n account : ℕ) : Type 0 where
  pub some : 1 ≤ n
  pub few : n ≤ object_page_limit
  pub account_some : 1 ≤ account
  pub account_few : account ≤ account_limit
  pub objects : length (objects_in v) < object_limit
  pub draws : (counters_in v).draws < draw_limit
  pub fit : used_in v + n ≤ (settings_in v).frames

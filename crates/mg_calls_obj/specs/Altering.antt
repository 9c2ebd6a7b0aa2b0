-- When an object may get an entry, or another account.
use Rattle.std.specs.Prelude.{◌*◌, ◌&&◌, ◌||◌, ◌∷◌, [], ℕ, nat_le, nat_lt, Bool, not, length, Option}
use Rattle.mg_model.specs.{Bank.{opens, owed_by}, Limits.entry_point_limit, ObjectCalls.{is_aligned, is_entry}}
use Rattle.mg_model.specs.{Refused.first_refusal, State.ObjectRow, declared.replies.Refusal.Refusal}
use Rattle.{mg_model.specs.declared.replies.Refusal.TheVariants.{Account, Debt}, mg_volume.specs.Held.VolumeHeld}
use Rattle.mg_volume.specs.Meaning.{accounts_in}

-- whether an offset is that of no word of the object
abbrev pub is_outside : ObjectRow → ℕ → Bool
is_outside object off = not (is_aligned off) || nat_le (4096 * object.pages) off

-- whether the object may have no more entries, and the address is none of those that it has
abbrev pub is_crowded : ObjectRow → ℕ → Bool
is_crowded object address = nat_le entry_point_limit (length object.entries) && not (is_entry object address)

-- the first reason against an account that is to pay for an object
abbrev pub paying_refusal : VolumeHeld → ℕ → ℕ → Option Refusal
paying_refusal v account password =
    first_refusal (
    (not (opens (accounts_in v) account password), Account)
    ∷ (nat_lt 0 (owed_by (accounts_in v) account), Debt)
    ∷ [])

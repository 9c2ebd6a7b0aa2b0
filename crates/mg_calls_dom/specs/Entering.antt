-- Why a thread may not enter an object by an address, when the access is allowed.
use Rattle.std.specs.Prelude.{ℕ, nat_le, nat_lt, not, [], ◌∷◌, length, Option}
use Rattle.{mg_apd.specs.Refusals.entered_slots, mg_model.specs.Limits.{frame_limit, slot_limit}}
use Rattle.mg_model.specs.{ObjectCalls.is_entry, Refused.first_refusal, State.{ObjectRow, ThreadRow}}
use Rattle.mg_model.specs.declared.replies.Refusal.{Refusal, TheVariants.{Depth, NoEntry, SlotFull}}

-- what is against it, of the thread's row and the object's
abbrev pub pdx_refusal : ThreadRow → ObjectRow → ℕ → ℕ → Option Refusal
pdx_refusal thread object a mask =
    first_refusal (
    (not (is_entry object a), NoEntry)
    ∷ (nat_le frame_limit (length thread.frames), Depth)
    ∷ (nat_lt slot_limit (length (entered_slots thread mask object.extension)), SlotFull)
    ∷ [])

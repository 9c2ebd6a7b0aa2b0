-- Why a change of a thread's frames is refused: the first reason against it.
use Rattle.std.specs.{Option.option_to_list, Prelude.{ℕ, ◌++◌, ◌∷◌, [], nat_le, nat_lt, List, length, Option}}
use Rattle.mg_model.specs.{Access.last_slots, Domains.kept_from, Limits.{frame_limit, slot_limit}}
use Rattle.mg_model.specs.{Refused.first_refusal, State.ThreadRow, declared.replies.Refusal.Refusal}
use Rattle.mg_model.specs.declared.{replies.Refusal.TheVariants.{Depth, NoFrame, NoSlot, SlotFull}, slots.Slot.Slot}

-- against one slot more
abbrev pub pushing_refusal : ThreadRow → Option Refusal
pushing_refusal row = first_refusal ((nat_le slot_limit (length (last_slots row.frames)), SlotFull) ∷ [])

-- against one slot less
abbrev pub dropping_refusal : ThreadRow → ℕ → Option Refusal
dropping_refusal row index = first_refusal ((nat_le (length (last_slots row.frames)) index, NoSlot) ∷ [])

-- the slots of a frame that is entered: those that the mask keeps, and then the extension
abbrev pub entered_slots : ThreadRow → ℕ → Option Slot → List Slot
entered_slots row mask extension = kept_from mask 0 (last_slots row.frames) ++ option_to_list extension

-- against entering it
abbrev pub entering_refusal : ThreadRow → ℕ → Option Slot → Option Refusal
entering_refusal row mask extension =
    first_refusal (
    (nat_le frame_limit (length row.frames), Depth)
    ∷ (nat_lt slot_limit (length (entered_slots row mask extension)), SlotFull)
    ∷ [])

-- against leaving the present one
abbrev pub leaving_refusal : ThreadRow → Option Refusal
leaving_refusal row = first_refusal ((nat_le (length row.frames) 1, NoFrame) ∷ [])

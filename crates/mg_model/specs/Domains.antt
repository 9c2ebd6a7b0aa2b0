-- The calls on a thread's protection domain: its present frame, and the frames below it.
use Rattle.std.specs.{Option.{option_map_or, option_to_list}, Prelude.{ℕ, suc, ◌+◌, ◌-◌, ◌/◌, ◌%◌, ◌^◌, ◌==◌, nat_le}}
use Rattle.std.specs.Prelude.{nat_lt, not, List, [], ◌∷◌, ◌++◌, length, if◌then◌else◌, map, take, drop, replicate}
use Rattle.std.specs.Prelude.{slice_get, Option, Some, None}
use Rattle.mg_model.specs.{Access.{allowed, domain_of, thread_of}, ObjectCalls.{is_aligned, is_entry, row_at}}
use Rattle.mg_model.specs.{Refused.{Answer, checked}, State.{State, Thread, ThreadRow, CallFrame}}
use Rattle.mg_model.specs.declared.limits.TheConstants.{FRAME_LIMIT as frame_limit, SLOT_LIMIT as slot_limit}
use Rattle.mg_model.specs.declared.replies.Refusal.TheVariants.{Align, Denied, NoEntry, Depth, SlotFull, NoSlot}
use Rattle.mg_model.specs.declared.replies.{Refusal.TheVariants.NoFrame, Reply.TheVariants.{Done, Count, Slots}}
use Rattle.mg_model.specs.declared.{rights.Right.TheVariants.P, slots.Slot.Slot}

-- the state with a change of this thread's row
abbrev pub with_thread : State → ℕ → (ThreadRow → ThreadRow) → State
with_thread state t change =
    record state {
      threads = map
          (λ (thread : Thread). if thread.number == t then record thread { row = change thread.row } else thread) state.threads;
    }

-- the frames with other slots in the last
abbrev pub with_last_slots : List CallFrame → List Slot → List CallFrame
with_last_slots [] slots = []
with_last_slots (frame ∷ []) slots = record frame { slots = slots } ∷ []
with_last_slots (frame ∷ next ∷ frames) slots = frame ∷ with_last_slots (next ∷ frames) slots

-- the state with other slots in the thread's present frame
abbrev pub with_slots : State → ℕ → List Slot → State
with_slots state t slots = with_thread state t (λ thread. record thread { frames = with_last_slots thread.frames slots })

-- `apdadd CB CPW`: the slot is not tested
abbrev pub apdadd : State → ℕ → ℕ → ℕ → Answer
apdadd state t clist password =
    let slots = domain_of state t in
    checked state ((nat_le slot_limit (length slots), SlotFull) ∷ [])
    (with_slots state t (slots ++ record { base = clist; password = password } ∷ []), Count (length slots))

-- `apddel I`
abbrev pub apddel : State → ℕ → ℕ → Answer
apddel state t index =
    let slots = domain_of state t in
    checked state ((nat_le (length slots) index, NoSlot) ∷ [])
    (with_slots state t (take index slots ++ drop (suc index) slots), Done)

-- `apdlist`: the bases in order, with 0 past the count
abbrev pub apdlist : State → ℕ → Answer
apdlist state t =
    let slots = domain_of state t in
    (state, Slots (length slots) (map (λ (slot : Slot). slot.base) slots ++ replicate (slot_limit - length slots) 0))

-- the slots from place j on whose bit of the mask is 1
abbrev pub kept_from : ℕ → ℕ → List Slot → List Slot
kept_from mask j [] = []
kept_from mask j (slot ∷ slots) = if mask / 2 ^ j % 2 == 1 then slot ∷ kept_from mask (j + 1) slots else kept_from mask (j + 1) slots

abbrev pub row_of : State → ℕ → Option ThreadRow
row_of state t = option_map_or (λ (thread : Thread). Some thread.row) (thread_of state t) None

abbrev pub frames_of : State → ℕ → List CallFrame
frames_of state t = option_map_or (λ (thread : Thread). thread.row.frames) (thread_of state t) []

-- `pdx A MASK`: the frame that it makes has the kept slots, and then the extension
abbrev pub pdx : State → ℕ → ℕ → ℕ → Answer
pdx state t a mask =
    let slots = kept_from mask 0 (domain_of state t) ++ option_to_list (row_at state a).extension in
    checked state (
    (not (is_aligned a), Align)
    ∷ (not (allowed state t a P), Denied)
    ∷ (not (is_entry (row_at state a) a), NoEntry)
    ∷ (nat_le frame_limit (length (frames_of state t)), Depth)
    ∷ (nat_lt slot_limit (length slots), SlotFull)
    ∷ []) (
      with_thread state t (λ thread. record thread { pc = a; frames = thread.frames ++ record { back = thread.pc; slots = slots } ∷ [] }),
      Count (length (frames_of state t) + 1),
    )

-- the address that the present frame returns to
abbrev pub last_back : List CallFrame → ℕ
last_back frames = option_map_or (λ (frame : CallFrame). frame.back) (slice_get frames (length frames - 1)) 0

-- `ret`
abbrev pub ret : State → ℕ → Answer
ret state t =
    checked state ((nat_le (length (frames_of state t)) 1, NoFrame) ∷ []) (
      with_thread state t
          (λ thread. record thread { pc = last_back thread.frames; frames = take (length thread.frames - 1) thread.frames }),
      Count (length (frames_of state t) - 1),
    )

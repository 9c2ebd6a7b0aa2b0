-- What a seat of the validation cache rests on in a state, and which seats a line ends.
use Rattle.std.specs.{Option.option_map_or, Prelude.{ℕ, ◌≡◌, ◌+◌, ◌==◌, ◌&&◌, ◌||◌, nat_le, nat_lt, Bool, true, false}}
use Rattle.std.specs.Prelude.{List, [], Contains, Option, Some, if◌then◌else◌}
use Rattle.mg_model.specs.{Access.{based_at, domain_of, pairs_of, holds}, Accesses.{fetched, turning}}
use Rattle.mg_model.specs.{ObjectCalls.row_at, Script.operand, State.{Object, State, Thread, ThreadRow}, Turn.picked}
use Rattle.mg_model.specs.{Turn.script_call, declared.{calls.{Call.Call, Line.Line}, instructions.Instr.Instr}}
use Rattle.mg_model.specs.declared.{limits.TheConstants.PAGE_SIZE as page_size, rights.Right.{Right, TheVariants.R}}
use Rattle.mg_model.specs.declared.{seats.Seat.Seat, slots.Slot.Slot}
use Rattle.mg_model.specs.declared.calls.Call.TheVariants as call
use Rattle.mg_model.specs.declared.instructions.Instr.TheVariants as op

-- whether the object with this base holds a password with a right
abbrev pub held_at : State → ℕ → ℕ → Right → Bool
held_at state base password right =
    option_map_or (λ (object : Object). holds state.counters.period object.row password right) (based_at state.objects base) false

-- the entries of the object with this base, when it is read as a capability list
abbrev pub pairs_at : State → ℕ → List (ℕ × ℕ)
pairs_at state base = option_map_or (λ (object : Object). pairs_of object.words) (based_at state.objects base) []

-- The thread's present frame has a slot for the list, and the slot's password opens the list. The list has an entry for the
-- object, and the entry's password gives the right on it. So the thread lives: a thread that does not live has no slot.
pub record IsBacked (state : State) (seat : Seat) : Type 0 where
  pub slot : Slot
  pub slots : Contains (domain_of state seat.thread) slot
  pub via : slot.base ≡ seat.via
  pub opened : held_at state seat.via slot.password R ≡ true
  pub entry : ℕ × ℕ
  pub entries : Contains (pairs_at state seat.via) entry
  pub base : entry.0 ≡ seat.base
  pub held : held_at state seat.base entry.1 seat.right ≡ true

-- Sets of seats: those of a thread, those that a list gave, those that it gave or that are for its object, those whose list has an
-- address in its first page, none, and all.
abbrev pub by_thread : ℕ → Seat → Bool
by_thread t seat = seat.thread == t

abbrev pub by_given : ℕ → Seat → Bool
by_given list seat = seat.via == list

abbrev pub by_via : ℕ → Seat → Bool
by_via base seat = seat.via == base || seat.base == base

abbrev pub by_word : ℕ → Seat → Bool
by_word address seat = nat_le seat.via address && nat_lt address (seat.via + page_size)

abbrev pub by_none : Seat → Bool
by_none seat = false

abbrev pub by_each : Seat → Bool
by_each seat = true

-- the seats that a store to an address of the object with this base ends: none beyond the object's first page
abbrev pub by_list : ℕ → ℕ → Seat → Bool
by_list base address = if nat_lt address (base + page_size) then by_given base else by_none

-- a seat that was backed is backed still, unless it is one of the ended
abbrev pub KeepsBacked : (Seat → Bool) → State → State → Type 0
KeepsBacked ended old new = (seat : Seat) → ended seat ≡ false → IsBacked old seat → IsBacked new seat

-- which seats a call may end
abbrev pub ended_by_call : State → ℕ → Call → Seat → Bool
ended_by_call state t (call.Store a value) = by_word a
ended_by_call state t (call.Delete b) = by_via (row_at state b).base
ended_by_call state t (call.Pwdel b password) = by_via (row_at state b).base
ended_by_call state t (call.Apddel index) = by_thread t
ended_by_call state t (call.Pdx a mask) = by_thread t
ended_by_call state t call.Ret = by_thread t
ended_by_call state t (call.End i) = by_thread i
ended_by_call state t call.Rent = by_each
ended_by_call state t _ = by_none

-- which seats a turn may end, by the instruction that was fetched
abbrev pub ended_by_instruction : State → ℕ → ThreadRow → Option Instr → Seat → Bool
ended_by_instruction state t thread (Some (op.Store a b i)) = by_word (operand thread b i)
ended_by_instruction state t thread (Some (op.Pdx a b)) = by_thread t
ended_by_instruction state t thread (Some op.Ret) = by_thread t
ended_by_instruction state t thread (Some op.Sys) = ended_by_call state t (script_call thread)
ended_by_instruction state t thread _ = by_none

abbrev pub ended_by_turn : State → Option Thread → Seat → Bool
ended_by_turn state turns = option_map_or (λ (thread : Thread). ended_by_instruction state thread.number thread.row (fetched state thread)) turns by_none

abbrev pub ended_of : State → ℕ → Call → Seat → Bool
ended_of state t call.Turn = ended_by_turn state (turning state t)
ended_of state t call.Next = ended_by_turn state (picked state)
ended_of state t other = ended_by_call state t other

-- the seats that a line may end, whatever it is answered; all others stay
abbrev pub ended_by : State → Line → Seat → Bool
ended_by state line = ended_of state line.thread line.call

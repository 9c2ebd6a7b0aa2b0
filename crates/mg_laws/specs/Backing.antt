-- Laws on what a seat of the validation cache rests on.
use Rattle.std.specs.{List.list_any, Prelude.{◌≡◌, ℕ, Bool, true, Contains, Some, ◌&&◌, ◌==◌}}
use Rattle.mg_model.specs.{Access.{at, domain_of, pairs_under, holds}, Backed.{IsBacked, KeepsBacked, by_list, by_none}}
use Rattle.mg_model.specs.{Backed.{by_via, by_word, ended_by, ended_by_call}, Domains.{row_of, with_thread}}
use Rattle.mg_model.specs.{Objects.{with_row, without_object}, State.{Object, ObjectRow, State, ThreadRow}}
use Rattle.mg_model.specs.{WellFormed.IsWellFormed, declared.{calls.{Call.Call, Line.Line}, rights.Right.Right}}
use Rattle.mg_model.specs.declared.{seats.Seat.Seat, slots.Slot.Slot}

-- a line leaves each seat backed that was backed, except those that it ends
abbrev pub StepsKeepBacked : (State → Line → State) → Type 0
StepsKeepBacked steps = (state : State) (line : Line) → IsWellFormed state → KeepsBacked (ended_by state line) state (steps state line)

-- a call leaves each seat backed that was backed, except those that it ends; a line or a script makes it
abbrev pub CallsKeepBacked : (State → ℕ → Call → State) → Type 0
CallsKeepBacked calls = (state : State) (t : ℕ) (made : Call) → IsWellFormed state → KeepsBacked (ended_by_call state t made) state (calls state t made)

-- if a seat is backed, its thread may reach each address of its object with its right
abbrev pub BackedAllows : (State → ℕ → ℕ → Right → Bool) → Type 0
BackedAllows may =
    (state : State) (seat : Seat) (address : ℕ) (object : Object) → IsWellFormed state → IsBacked state seat → at state.objects address ≡ Some object → object.row.base ≡ seat.base →
    may state seat.thread address seat.right ≡ true

-- if a thread may reach an address of an object, a seat for the object is backed, by some list
abbrev pub AllowedIsBacked : (State → ℕ → ℕ → Right → Bool) → Type 0
AllowedIsBacked may =
    (state : State) (t address : ℕ) (right : Right) (object : Object) → IsWellFormed state → at state.objects address ≡ Some object → may state t address right ≡ true →
    (via : ℕ) × IsBacked state (record { thread = t; base = object.row.base; right = right; via = via })

-- if a slot of the thread gives an entry for the object with the right, the seat by the slot's list is backed
abbrev pub OpeningBacks : Type 0
OpeningBacks =
    (state : State) (t address : ℕ) (right : Right) (object : Object) (slot : Slot) → IsWellFormed state → at state.objects address ≡ Some object → Contains (domain_of state t) slot →
    list_any (λ (entry : ℕ × ℕ). entry.0 == object.row.base && holds state.counters.period object.row entry.1 right) (pairs_under state.objects state.counters.period slot) ≡ true →
    IsBacked state (record { thread = t; base = object.row.base; right = right; via = slot.base })

-- A change that ends the seats of the list with an address in its first page ends only seats of the one object that has the
-- address. It ends none if the address is past the object's first page.
abbrev pub EndsOneList : Type 0
EndsOneList =
    (old new : State) (address : ℕ) (object : Object) → IsWellFormed old → at old.objects address ≡ Some object → KeepsBacked (by_word address) old new → KeepsBacked (by_list object.row.base address) old new

-- a seat rests on the objects, the period and the slots of its thread's present frame alone
abbrev pub BackingRestsOnDomain : Type 0
BackingRestsOnDomain =
    (old new : State) (seat : Seat) → new.objects ≡ old.objects → new.counters.period ≡ old.counters.period → ((slot : Slot) → Contains (domain_of old seat.thread) slot → Contains (domain_of new seat.thread) slot) →
    IsBacked old seat → IsBacked new seat

-- so a change of a thread's row that keeps its frames ends no seat
abbrev pub FramesKeepBacked : Type 0
FramesKeepBacked = (state : State) (t : ℕ) (change : ThreadRow → ThreadRow) → ((row : ThreadRow) → row_of state t ≡ Some row → (change row).frames ≡ row.frames) → KeepsBacked by_none state (with_thread state t change)

-- if an object goes, only the seats end that its list gave and those that are for it, in any state
abbrev pub GoneKeepsOthers : Type 0
GoneKeepsOthers = (state : State) (base : ℕ) → KeepsBacked (by_via base) state (record state { objects = without_object base state.objects })

-- the same holds for another row in place of the object's own, with the same base
abbrev pub ChangeKeepsOthers : Type 0
ChangeKeepsOthers = (state : State) (base : ℕ) (change : ObjectRow → ObjectRow) → ((row : ObjectRow) → (change row).base ≡ row.base) → KeepsBacked (by_via base) state (record state { objects = with_row base change state.objects })

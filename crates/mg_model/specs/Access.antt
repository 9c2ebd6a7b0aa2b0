-- Which access is allowed: a search of the present state, made anew each time.
--
-- Everything here is a function of the objects, the period and the slots of the thread's present frame alone.
use Rattle.std.specs.{List.{list_any, range_with_len}, Option.option_map_or, Prelude.{ℕ, ◌+◌, ◌-◌, ◌*◌, ◌==◌, ◌&&◌}}
use Rattle.std.specs.Prelude.{nat_le, nat_lt, min, Bool, false, List, [], slice_index, if◌then◌else◌, find, flat_map}
use Rattle.std.specs.Prelude.{length, map, slice_get, Option}
use Rattle.mg_model.specs.{Rights.has_right, State.{State, Object, ObjectRow, Thread, CallFrame}}
use Rattle.mg_model.specs.declared.{limits.TheConstants.PAIR_LIMIT as pair_limit, rights.Right.{Right, TheVariants.R}}
use Rattle.mg_model.specs.declared.slots.{Pw.Pw, Slot.Slot}

-- whether an address lies in an object
abbrev pub covers : ObjectRow → ℕ → Bool
covers row address = nat_le row.base address && nat_lt address (row.base + 4096 * row.pages)

-- the object that has the address
abbrev pub at : List Object → ℕ → Option Object
at objects address = find (λ (object : Object). covers object.row address) objects

-- the object with this base
abbrev pub based_at : List Object → ℕ → Option Object
based_at objects base = find (λ (object : Object). object.row.base == base) objects

-- whether a password row is current and gives the right for this password
abbrev pub gives : ℕ → Pw → ℕ → Right → Bool
gives period row password right = row.password == password && (has_right row.rights right && nat_lt period row.until)

-- whether the object holds the password with the right
abbrev pub holds : ℕ → ObjectRow → ℕ → Right → Bool
holds period row password right = list_any (λ (pw : Pw). gives period pw password right) row.passwords

-- the pairs of a capability list, each a base and a password: as many as its first word says, within the limit
abbrev pub pairs_of : List ℕ → List (ℕ × ℕ)
pairs_of words =
    map (λ k. (slice_index words (2 + 2 * k), slice_index words (3 + 2 * k))) (range_with_len 0 (min (slice_index words 0) pair_limit))

-- what a slot gives: the pairs of its capability list, while the list's object holds the slot's password with R
abbrev pub pairs_under : List Object → ℕ → Slot → List (ℕ × ℕ)
pairs_under objects period slot =
    option_map_or
    (λ (clist : Object). if holds period clist.row slot.password R then pairs_of clist.words else [])
    (based_at objects slot.base) []

-- the capabilities of these slots, in order
abbrev pub capabilities : List Object → ℕ → List Slot → List (ℕ × ℕ)
capabilities objects period slots = flat_map (λ slot. pairs_under objects period slot) slots

-- whether these slots reach the address with the right
abbrev pub reaches : List Object → ℕ → List Slot → ℕ → Right → Bool
reaches objects period slots address right =
    option_map_or
    (λ (object : Object). list_any (λ (pair : ℕ × ℕ). pair.0 == object.row.base && holds period object.row pair.1 right)
    (capabilities objects period slots))
    (at objects address) false

-- the thread with this number
abbrev pub thread_of : State → ℕ → Option Thread
thread_of state t = find (λ (thread : Thread). thread.number == t) state.threads

-- the slots of the present frame
abbrev pub last_slots : List CallFrame → List Slot
last_slots frames = option_map_or (λ (frame : CallFrame). frame.slots) (slice_get frames (length frames - 1)) []

-- a thread's protection domain; no slots if no such thread lives
abbrev pub domain_of : State → ℕ → List Slot
domain_of state t = option_map_or (λ (thread : Thread). last_slots thread.row.frames) (thread_of state t) []

-- whether the thread may reach the address with the right
abbrev pub allowed : State → ℕ → ℕ → Right → Bool
allowed state t address right = reaches state.objects state.counters.period (domain_of state t) address right

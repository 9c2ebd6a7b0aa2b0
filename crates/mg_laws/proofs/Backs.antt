-- What a step must keep so that a seat stays backed, and the changes of objects that keep it.
use Rattle.{mg_laws.proofs.Finds.{pass-map, read-map}, mg_model.specs.{Abbreviations.{pairs_from, unless_refused}, Access.{based_at, covers}}}
use Rattle.mg_model.specs.{Access.{domain_of, pairs_of, holds, last_slots}, Backed.{IsBacked, KeepsBacked, by_none, by_word, pairs_at, held_at}}
use Rattle.mg_model.specs.{Objects.{with_row, with_word}, Refused.Answer, State.{Object, ObjectRow, State, Thread}, declared.replies.Refusal.Refusal}
use Rattle.{mg_model.specs.declared.{rights.Right.Right, seats.Seat.Seat, slots.Slot.Slot}, std.proofs.Common.{ℕ, zero, suc, ◌+◌, ◌*◌, ◌≤◌, ◌≡◌}}
use Rattle.std.proofs.Common.{◌&&◌, ◌/◌, ◌-◌, Bool, true, false, cond, eqb, leb, ltb, List, [], Option, Some, None, refl, sym, subst, arith, Contains}
use Rattle.std.proofs.{Math.Seq.get_or-set_other, lemmas.Bool.{and_from, and_parts, cond_both, eqb-true, le-leb, leb-true, ltb-false}}
use Rattle.std.specs.{Option.option_map_or, Prelude.{find, slice_index, slice_set}}

-- each of these slots is among those
abbrev pub KeepsSlots : List Slot → List Slot → Type 0
KeepsSlots old new = (slot : Slot) → Contains old slot → Contains new slot

-- what an object with this base held, it still holds
abbrev pub KeepsHeld : State → State → ℕ → Type 0
KeepsHeld old new base = (password : ℕ) (right : Right) → held_at old base password right ≡ true → held_at new base password right ≡ true

-- what a step keeps for a seat: the slots of the thread, the entries of the list, the password that opens the list, and the
-- password that gives the right
pub record KeepsParts (old new : State) (seat : Seat) : Type 0 where
  pub slots : KeepsSlots (domain_of old seat.thread) (domain_of new seat.thread)
  pub entries : pairs_at new seat.via ≡ pairs_at old seat.via
  pub opened : KeepsHeld old new seat.via
  pub held : KeepsHeld old new seat.base

pub backed_from : (old new : State) (seat : Seat) → KeepsParts old new seat → IsBacked old seat → IsBacked new seat
backed_from old new seat keeps backed = grind arith

-- a row of the table: if it is refused nothing changes
pub unless_refused-backed : (ended : Seat → Bool) (state : State) (refused : Option Refusal) (done : Answer) → (refused ≡ None → KeepsBacked ended state done.0) → KeepsBacked ended state (unless_refused refused state done).0
unless_refused-backed ended state None done keeps = keeps refl
unless_refused-backed ended state (Some word) done keeps = λ seat stays backed. backed

-- the same state
pub same-backed : (ended : Seat → Bool) (state : State) → KeepsBacked ended state state
same-backed ended state = λ seat stays backed. backed

-- one step that ends no seat and then another step, or the two in the other order
pub first-backed : (ended : Seat → Bool) (old mid new : State) → KeepsBacked by_none old mid → KeepsBacked ended mid new → KeepsBacked ended old new
first-backed ended old mid new first second = λ seat stays backed. second seat stays (first seat refl backed)

pub last-backed : (ended : Seat → Bool) (old mid new : State) → KeepsBacked ended old mid → KeepsBacked by_none mid new → KeepsBacked ended old new
last-backed ended old mid new first second = λ seat stays backed. second seat refl (first seat stays backed)

-- a step that ends no seat ends none of these
pub none-backed : (ended : Seat → Bool) (old new : State) → KeepsBacked by_none old new → KeepsBacked ended old new
none-backed ended old new keeps = λ seat stays backed. keeps seat refl backed

-- a word from word 512 on is no part of a capability list
pairs_from-set : (words : List ℕ) (i value j n : ℕ) → 2 * (j + n) + 2 ≤ i → pairs_from (slice_set words i value) j n ≡ pairs_from words j n
pairs_from-set words i value j zero high = refl
pairs_from-set words i value j (suc n) high =
    let first : slice_index (slice_set words i value) (2 + 2 * j) ≡ slice_index words (2 + 2 * j) = get_or-set_other words i (2 + 2 * j) value 0 (omega arith) in
    let second : slice_index (slice_set words i value) (3 + 2 * j) ≡ slice_index words (3 + 2 * j) = get_or-set_other words i (3 + 2 * j) value 0 (omega arith) in
    let rest : pairs_from (slice_set words i value) (j + 1) n ≡ pairs_from words (j + 1) n = pairs_from-set words i value (j + 1) n (omega arith) in
    rw (first, second, rest) refl

pairs_of-set : (words : List ℕ) (i value : ℕ) → 512 ≤ i → pairs_of (slice_set words i value) ≡ pairs_of words
pairs_of-set words i value high = grind (arith, get_or-set_other, pairs_from-set)

-- the object with another word, if it has the address
abbrev stored : ℕ → ℕ → Object → Object
stored address value object = cond (covers object.row address) (record object { words = slice_set object.words ((address - object.row.base) / 8) value }) object

stored-row : (address value : ℕ) (object : Object) → (stored address value object).row ≡ object.row
stored-row address value object = cond_both (covers object.row address) _ _ (λ (x : Object). x.row ≡ object.row) (λ _. refl) (λ _. refl)

stored-entries : (address value via : ℕ) (object : Object) → (leb via address && ltb address (via + 4096)) ≡ false → object.row.base ≡ via → pairs_of (stored address value object).words ≡ pairs_of object.words
stored-entries address value via object beyond same = grind (arith, cond_both, leb-true, and_parts, pairs_of-set, and_from, le-leb, ltb-false)

pub with_word-backed : (state : State) (address value : ℕ) → KeepsBacked (by_word address) state (record state { objects = with_word state.objects address value })
with_word-backed state address value seat beyond = grind (arith, pass-map, stored-row, backed_from, read-map, stored-entries, eqb-true)

-- the object with a change of its row, if it has this base
abbrev rewritten : ℕ → (ObjectRow → ObjectRow) → Object → Object
rewritten x change object = cond (eqb object.row.base x) (record object { row = change object.row }) object

rewritten-base : (x : ℕ) (change : ObjectRow → ObjectRow) (object : Object) → ((row : ObjectRow) → (change row).base ≡ row.base) → (rewritten x change object).row.base ≡ object.row.base
rewritten-base x change object same = cond_both (eqb object.row.base x) _ _ (λ (o : Object). o.row.base ≡ object.row.base) (λ _. same object.row) (λ _. refl)

rewritten-words : (x : ℕ) (change : ObjectRow → ObjectRow) (object : Object) → (rewritten x change object).words ≡ object.words
rewritten-words x change object = cond_both (eqb object.row.base x) _ _ (λ (o : Object). o.words ≡ object.words) (λ _. refl) (λ _. refl)

-- a change of the row with base x takes away no password that the object with this base holds
abbrev pub TakesNone : ℕ → ℕ → (ObjectRow → ObjectRow) → ℕ → Type 0
TakesNone period x change base = x ≡ base → (row : ObjectRow) (password : ℕ) (right : Right) → holds period row password right ≡ true → holds period (change row) password right ≡ true

with_row-held : (state new : State) (x base : ℕ) (change : ObjectRow → ObjectRow) → new.objects ≡ with_row x change state.objects → new.counters.period ≡ state.counters.period → ((row : ObjectRow) → (change row).base ≡ row.base) → TakesNone state.counters.period x change base → KeepsHeld state new base
with_row-held state new x base change objects period same none password right there = grind (arith, pass-map, rewritten-base, cond_both, eqb-true)

with_row-entries : (state new : State) (x base : ℕ) (change : ObjectRow → ObjectRow) → new.objects ≡ with_row x change state.objects → ((row : ObjectRow) → (change row).base ≡ row.base) → pairs_at new base ≡ pairs_at state base
with_row-entries state new x base change objects same = grind (arith, read-map, rewritten-base, rewritten-words)

-- a change of the row with base x that keeps its base keeps a seat if it takes no password away from the seat's list or object
pub with_row-backed : (state new : State) (x : ℕ) (change : ObjectRow → ObjectRow) (seat : Seat) → new.objects ≡ with_row x change state.objects → new.counters.period ≡ state.counters.period → new.threads ≡ state.threads → ((row : ObjectRow) → (change row).base ≡ row.base) → TakesNone state.counters.period x change seat.via → TakesNone state.counters.period x change seat.base → IsBacked state seat → IsBacked new seat
with_row-backed state new x change seat objects period threads same via base =
    backed_from state new seat (record {
      slots = λ slot there. subst (λ (ts : List Thread). Contains (option_map_or (λ (thread : Thread). last_slots thread.row.frames) (find (λ (thread : Thread). eqb thread.number seat.thread) ts) []) slot) (sym threads) there;
      entries = with_row-entries state new x seat.via change objects same;
      opened = with_row-held state new x seat.via change objects period same via;
      held = with_row-held state new x seat.base change objects period same base;
    })

-- a seat is kept if its list and its object are found as before, and the period and the threads are as they were
pub found-backed : (old new : State) (seat : Seat) → new.counters.period ≡ old.counters.period → new.threads ≡ old.threads → based_at new.objects seat.via ≡ based_at old.objects seat.via → based_at new.objects seat.base ≡ based_at old.objects seat.base → IsBacked old seat → IsBacked new seat
found-backed old new seat period threads via base = grind (arith, backed_from)

-- a seat rests on the objects, the period, and the slots of the thread's present frame
pub rests-backed : (old new : State) (seat : Seat) → new.objects ≡ old.objects → new.counters.period ≡ old.counters.period → KeepsSlots (domain_of old seat.thread) (domain_of new seat.thread) → IsBacked old seat → IsBacked new seat
rests-backed old new seat objects period slots = grind (arith, backed_from)

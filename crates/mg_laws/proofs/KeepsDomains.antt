-- The calls on a protection domain keep the state well formed.
use Rattle.mg_laws.proofs.{Keeps.unless_refused-keeps, KeepsRows.{frames_of-row, thread-formed, with_thread-keeps}, Passed.unrefused}
use Rattle.mg_model.specs.{Abbreviations.{entered_slots, first_back, no_row}, Access.{allowed, at, covers, domain_of, last_slots, thread_of}}
use Rattle.mg_model.specs.Domains.{apdadd, apddel, frames_of, kept_from, last_back, pdx, ret, with_last_slots, with_slots, with_thread}
use Rattle.mg_model.specs.{ObjectCalls.{is_aligned, is_entry, row_at}, Ranges.{IsCallFrame, IsSlot, IsThreadRow, IsWord}, State.{CallFrame, Object}}
use Rattle.mg_model.specs.{State.{State, Thread, ThreadRow}, WellFormed.{IsObject, IsWellFormed}, declared.rights.Right.TheVariants.P}
use Rattle.{mg_model.specs.declared.slots.Slot.Slot, std.proofs.Common.{ℕ, suc, ◌+◌, ◌-◌, ◌%◌, ◌<◌, ◌≤◌, ◌≡◌, Bool, false, not, leb, ltb, List, []}}
use Rattle.std.proofs.Common.{◌∷◌, ◌++◌, length, take, drop, Option, Some, None, refl, ap, ◌∙◌, subst, arith, length-append, length-drop, length-take}
use Rattle.std.proofs.lemmas.{Bool.{cond_both, eqb-true, leb-false, ltb-false, not-false}, List.{get_or-take, get_or_append_left, length-take-le}}
use Rattle.std.proofs.lemmas.List.{length_push, Elements.{All-append, All-cons, All-drop, All-head, All-nil, All-push, All-tail, All-take}}
use Rattle.std.{proofs.lemmas.Option.{get_or_from_slice_get, same_Some, slice_get_within}, specs.Option.{option_map_or, option_to_list}}
use Rattle.std.specs.Prelude.{All, find, slice_get}

pub aligned_from : (address : ℕ) → not (is_aligned address) ≡ false → address % 8 ≡ 0
aligned_from address is = eqb-true _ _ (not-false _ is)

-- a fact of all elements holds for the element that is found
pub find-All : {X : Type 0} (Q : X → Type 0) (test : X → Bool) (xs : List X) (x : X) → All Q xs → find test xs ≡ Some x → Q x
find-All Q test [] x all is = absurd (cc)
find-All Q test (y ∷ xs) x all is =
    cond_both (test y) (Some y) (find test xs) (λ o. o ≡ Some x → Q x)
    (λ _ same. subst Q (same_Some _ _ same) (All-head Q y xs all))
    (λ _ later. find-All Q test xs x (All-tail Q y xs all) later)
    is

-- the slots of a frame
pub record AreSlots (slots : List Slot) : Type 0 where
  pub few : length slots ≤ 8
  pub each : All IsSlot slots

slots_of_frame : (frames : List CallFrame) (n : ℕ) (o : Option CallFrame) → All IsCallFrame frames → slice_get frames n ≡ o → AreSlots (option_map_or (λ (frame : CallFrame). frame.slots) o [])
slots_of_frame frames n None all is = record { few = omega arith; each = All-nil IsSlot }
slots_of_frame frames n (Some frame) all is =
    let there : IsCallFrame frame = subst IsCallFrame (get_or_from_slice_get frames n frame frame is) (all n frame (slice_get_within frames n frame is)) in
    record { few = there.few; each = there.slots }

pub last_slots-formed : (row : ThreadRow) → IsThreadRow row → AreSlots (last_slots row.frames)
last_slots-formed row is = slots_of_frame row.frames (length row.frames - 1) (slice_get row.frames (length row.frames - 1)) is.frames refl

slots_of_thread : (state : State) (t : ℕ) (o : Option Thread) → IsWellFormed state → thread_of state t ≡ o → AreSlots (option_map_or (λ (thread : Thread). last_slots thread.row.frames) o [])
slots_of_thread state t None formed is = record { few = omega arith; each = All-nil IsSlot }
slots_of_thread state t (Some thread) formed is = last_slots-formed thread.row (thread-formed state.counters.births state.threads t thread formed.threads is).row

pub domain_of-formed : (state : State) (t : ℕ) → IsWellFormed state → AreSlots (domain_of state t)
domain_of-formed state t formed = slots_of_thread state t (thread_of state t) formed refl

-- other slots in the last frame
pub length-with_last_slots : (frames : List CallFrame) (slots : List Slot) → length (with_last_slots frames slots) ≡ length frames
length-with_last_slots [] slots = refl
length-with_last_slots (frame ∷ []) slots = refl
length-with_last_slots (frame ∷ next ∷ frames) slots = ap suc (length-with_last_slots (next ∷ frames) slots)

first_back-with_last_slots : (frames : List CallFrame) (slots : List Slot) → first_back (with_last_slots frames slots) ≡ first_back frames
first_back-with_last_slots [] slots = refl
first_back-with_last_slots (frame ∷ []) slots = refl
first_back-with_last_slots (frame ∷ next ∷ frames) slots = refl

All-with_last_slots : (frames : List CallFrame) (slots : List Slot) → AreSlots slots → All IsCallFrame frames → All IsCallFrame (with_last_slots frames slots)
All-with_last_slots [] slots are all = all
All-with_last_slots (frame ∷ []) slots are all = grind (arith, All-head, All-cons, All-nil)
All-with_last_slots (frame ∷ next ∷ frames) slots are all =
    grind (arith, (All-with_last_slots (next ∷ frames) slots are (All-tail IsCallFrame frame (next ∷ frames) all)), All-cons, All-head, All-tail)

pub with_slots-keeps : (state : State) (t : ℕ) (slots : List Slot) → IsWellFormed state → AreSlots slots → IsWellFormed (with_slots state t slots)
with_slots-keeps state t slots formed are =
    with_thread-keeps state t (λ thread. record thread { frames = with_last_slots thread.frames slots }) formed (λ row _ is. record {
      row = grind (arith, length-with_last_slots, All-with_last_slots, first_back-with_last_slots);
      birth = refl;
      creator = refl;
    })

-- one slot more
more_slots-keeps : (state : State) (t : ℕ) (new : Slot) → IsWellFormed state → length (domain_of state t) < 8 → IsSlot new → IsWellFormed (with_slots state t (domain_of state t ++ new ∷ []))
more_slots-keeps state t new formed free is =
    let are : AreSlots (domain_of state t) = domain_of-formed state t formed in
    with_slots-keeps state t (domain_of state t ++ new ∷ []) formed (record { few = rw length_push (omega arith); each = All-push IsSlot (domain_of state t) new are.each is })

pub apdadd-keeps : (state : State) (t clist password : ℕ) → IsWellFormed state → IsWord clist → IsWord password → IsWellFormed (apdadd state t clist password).0
apdadd-keeps state t clist password formed base word =
    unless_refused-keeps _ state _ formed (λ none.
    more_slots-keeps state t (record { base = clist; password = password }) formed (leb-false _ _ (unrefused _ _ _ none).0) (record { base = base; password = word }))

pub apddel-keeps : (state : State) (t index : ℕ) → IsWellFormed state → IsWellFormed (apddel state t index).0
apddel-keeps state t index formed =
    let slots : List Slot = domain_of state t in
    let are : AreSlots slots = domain_of-formed state t formed in
    unless_refused-keeps _ state _ formed (λ _.
    with_slots-keeps state t (take index slots ++ drop (suc index) slots) formed (record {
      few = simp (length-append, length-take, length-drop) (omega arith);
      each = All-append IsSlot (take index slots) (drop (suc index) slots) (All-take IsSlot index slots are.each) (All-drop IsSlot (suc index) slots are.each);
    }))

-- the slots of a frame that a `pdx` makes
All-kept_from : (mask j : ℕ) (slots : List Slot) → All IsSlot slots → All IsSlot (kept_from mask j slots)
All-kept_from mask j [] all = all
All-kept_from mask j (slot ∷ slots) all =
    grind (arith, (All-kept_from mask (j + 1) slots (All-tail IsSlot slot slots all)), All-tail, cond_both, All-cons, All-head)

slots_of_extension : (o : Option Slot) → ((slot : Slot) → o ≡ Some slot → IsSlot slot) → All IsSlot (option_to_list o)
slots_of_extension None is = All-nil IsSlot
slots_of_extension (Some slot) is = All-cons IsSlot slot [] (is slot refl) (All-nil IsSlot)

extension_of_object : (objects : List Object) (a : ℕ) (o : Option Object) → All IsObject objects → at objects a ≡ o → All IsSlot (option_to_list (option_map_or (λ (object : Object). object.row) o no_row).extension)
extension_of_object objects a None all is = All-nil IsSlot
extension_of_object objects a (Some object) all is =
    let there : IsObject object = find-All IsObject (λ (x : Object). covers x.row a) objects object all is in
    slots_of_extension object.row.extension (λ slot same. (there.row.extension slot same).fields)

pub entered_slots-formed : (state : State) (t a mask : ℕ) → IsWellFormed state → All IsSlot (entered_slots state t a mask)
entered_slots-formed state t a mask formed =
    All-append IsSlot (kept_from mask 0 (domain_of state t)) (option_to_list (row_at state a).extension)
    (All-kept_from mask 0 (domain_of state t) (domain_of-formed state t formed).each)
    (extension_of_object state.objects a (at state.objects a) formed.objects.each refl)

-- one frame more
entered-keeps : (state : State) (t a : ℕ) (slots : List Slot) → IsWellFormed state → IsWord a → a % 8 ≡ 0 → AreSlots slots → length (frames_of state t) < 16 →
    IsWellFormed (with_thread state t (λ thread. record thread { pc = a; frames = thread.frames ++ record { back = thread.pc; slots = slots } ∷ [] }))
entered-keeps state t a slots formed word aligned are room =
    with_thread-keeps state t (λ thread. record thread { pc = a; frames = thread.frames ++ record { back = thread.pc; slots = slots } ∷ [] }) formed (λ row there is.
    let fits : length row.frames < 16 = subst (λ (frames : List CallFrame). length frames < 16) (frames_of-row state t row there) room in
    let some : 0 < length row.frames = omega arith in
    let new : CallFrame = record { back = row.pc; slots = slots } in
    record {
      row = record {
        birth = is.birth;
        creator = is.creator;
        pc = word;
        aligned = aligned;
        eight = is.eight;
        registers = is.registers;
        some_frame = rw length_push (omega arith);
        few_frames = rw length_push (omega arith);
        frames = All-push IsCallFrame row.frames new is.frames (record { back = is.pc; aligned = is.aligned; few = are.few; slots = are.each });
        bottom = ap (λ (f : CallFrame). f.back) (get_or_append_left row.frames (new ∷ []) _ 0 some) ∙ is.bottom;
      };
      birth = refl;
      creator = refl;
    })

pub pdx-keeps : (state : State) (t a mask : ℕ) → IsWellFormed state → IsWord a → IsWellFormed (pdx state t a mask).0
pdx-keeps state t a mask formed word =
    unless_refused-keeps _ state _ formed (λ none.
    let to_denied = unrefused (not (is_aligned a)) _ _ none in
    let to_entry = unrefused (not (allowed state t a P)) _ _ to_denied.1 in
    let to_depth = unrefused (not (is_entry (row_at state a) a)) _ _ to_entry.1 in
    let to_slots = unrefused (leb 16 (length (frames_of state t))) _ _ to_depth.1 in
    let to_end = unrefused (ltb 8 (length (entered_slots state t a mask))) _ _ to_slots.1 in
    entered-keeps state t a (entered_slots state t a mask) formed word (aligned_from a to_denied.0)
    (record { few = ltb-false _ _ to_end.0; each = entered_slots-formed state t a mask formed })
    (leb-false _ _ to_slots.0))

-- the address that a frame returns to is that of a word
pub record IsAddress (n : ℕ) : Type 0 where
  pub word : IsWord n
  pub aligned : n % 8 ≡ 0

back_of_frame : (frames : List CallFrame) (n : ℕ) (o : Option CallFrame) → All IsCallFrame frames → slice_get frames n ≡ o → IsAddress (option_map_or (λ (frame : CallFrame). frame.back) o 0)
back_of_frame frames n None all is = record { word = omega arith; aligned = refl }
back_of_frame frames n (Some frame) all is =
    let there : IsCallFrame frame = subst IsCallFrame (get_or_from_slice_get frames n frame frame is) (all n frame (slice_get_within frames n frame is)) in
    record { word = there.back; aligned = there.aligned }

pub last_back-formed : (frames : List CallFrame) → All IsCallFrame frames → IsAddress (last_back frames)
last_back-formed frames all = back_of_frame frames (length frames - 1) (slice_get frames (length frames - 1)) all refl

-- one frame less
returned-keeps : (state : State) (t : ℕ) → IsWellFormed state → 1 < length (frames_of state t) →
    IsWellFormed (with_thread state t (λ thread. record thread { pc = last_back thread.frames; frames = take (length thread.frames - 1) thread.frames }))
returned-keeps state t formed more =
    with_thread-keeps state t (λ thread. record thread { pc = last_back thread.frames; frames = take (length thread.frames - 1) thread.frames }) formed (λ row there is.
    let two : 1 < length row.frames = subst (λ (frames : List CallFrame). 1 < length frames) (frames_of-row state t row there) more in
    let back : IsAddress (last_back row.frames) = last_back-formed row.frames is.frames in
    let long : length (take (length row.frames - 1) row.frames) ≡ length row.frames - 1 = length-take-le (length row.frames - 1) row.frames (omega arith) in
    record {
      row = grind (arith, All-take, get_or-take);
      birth = refl;
      creator = refl;
    })

pub ret-keeps : (state : State) (t : ℕ) → IsWellFormed state → IsWellFormed (ret state t).0
ret-keeps state t formed = unless_refused-keeps _ state _ formed (λ none. returned-keeps state t formed (leb-false _ _ (unrefused _ _ _ none).0))

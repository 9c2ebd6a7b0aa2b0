-- The calls on domains, threads and accounts keep seats backed, except those that they end.
use Rattle.mg_laws.proofs.{Backs.{KeepsSlots, rests-backed, unless_refused-backed}, Finds.{find-hit, find-map, find-none}}
use Rattle.mg_laws.proofs.{KeepsDomains.length-with_last_slots, KeepsRows.{changed, changed-number, domain_of-row, row_of-thread}}
use Rattle.{mg_laws.proofs.KeepsThreads.{find-with_new_thread, find-without, free_number-free}, mg_model.specs.Abbreviations.{born, free_number}}
use Rattle.mg_model.specs.{Access.{domain_of, last_slots, thread_of}, Backed.{IsBacked, KeepsBacked, by_each, by_none, by_thread}}
use Rattle.mg_model.specs.{BankCalls.{open_account, pay, rent}, Domains.{apdadd, apddel, pdx, ret, row_of, with_last_slots, with_thread}}
use Rattle.mg_model.specs.{State.{CallFrame, State, Thread, ThreadRow}, Threads.{birth_of, end_thread, make_thread, new_thread, resume}}
use Rattle.{mg_model.specs.{Threads.with_new_thread, WellFormed.IsWellFormed, declared.{seats.Seat.Seat, slots.Slot.Slot}}, std.proofs.Common.ℕ}
use Rattle.std.proofs.Common.{◌+◌, ◌<◌, ◌≡◌, ◌≢◌, not, eqb, List, [], ◌∷◌, ◌++◌, filter, length, Option, Some, None, refl, sym, ap, ◌∙◌, subst, arith}
use Rattle.std.proofs.{Common.{All, Contains}, lemmas.{Bool.{cond_both, eqb-false, eqb-true, ne_eqb}, List.Elements.Contains-append_left}}
use Rattle.std.specs.{Option.option_map_or, Prelude.option_map}

-- A change of a thread's row keeps the slots of each thread if it keeps those of the row that the number finds.
slots-with_thread : (state : State) (t u : ℕ) (change : ThreadRow → ThreadRow) → ((row : ThreadRow) → u ≡ t → row_of state t ≡ Some row → KeepsSlots (last_slots row.frames) (last_slots (change row).frames)) → KeepsSlots (domain_of state u) (domain_of (with_thread state t change) u)
slots-with_thread state t u change keeps =
    subst (λ (o : Option Thread). KeepsSlots (domain_of state u) (slots_of o))
    (sym (find-map (λ (thread : Thread). eqb thread.number u) (changed t change) (λ thread. ap (λ (n : ℕ). eqb n u) (changed-number t change thread)) state.threads))
    (by_found (thread_of state u) refl)
  where
    slots_of : Option Thread → List Slot
    slots_of o = option_map_or (λ (thread : Thread). last_slots thread.row.frames) o []

    by_found : (o : Option Thread) → thread_of state u ≡ o → KeepsSlots (slots_of o) (slots_of (option_map (changed t change) o))
    by_found None is = λ slot there. there
    by_found (Some thread) is =
        cond_both (eqb thread.number t) _ _ (λ (x : Thread). KeepsSlots (last_slots thread.row.frames) (last_slots x.row.frames))
        (λ it.
        let number : thread.number ≡ u = eqb-true _ _ (find-hit (λ (x : Thread). eqb x.number u) state.threads thread is).passes in
        let same : u ≡ t = sym number ∙ eqb-true _ _ it in
        keeps thread.row same (row_of-thread state t thread (sym (ap (λ (n : ℕ). thread_of state n) same) ∙ is)))
        (λ _ slot there. there)

threads-backed : (state : State) (t : ℕ) (change : ThreadRow → ThreadRow) (seat : Seat) → ((row : ThreadRow) → seat.thread ≡ t → row_of state t ≡ Some row → KeepsSlots (last_slots row.frames) (last_slots (change row).frames)) → IsBacked state seat → IsBacked (with_thread state t change) seat
threads-backed state t change seat keeps = rests-backed state (with_thread state t change) seat refl refl (slots-with_thread state t seat.thread change keeps)

-- a change of a thread's row that keeps its frames ends no seat
pub frames-backed : (state : State) (t : ℕ) (change : ThreadRow → ThreadRow) → ((row : ThreadRow) → row_of state t ≡ Some row → (change row).frames ≡ row.frames) → KeepsBacked by_none state (with_thread state t change)
frames-backed state t change same seat _ = grind (arith, threads-backed)

-- any change of it ends only seats of the thread
pub by_thread-backed : (state : State) (t : ℕ) (change : ThreadRow → ThreadRow) → KeepsBacked (by_thread t) state (with_thread state t change)
by_thread-backed state t change seat other = threads-backed state t change seat (λ row same. absurd (eqb-false _ _ other same))

pub pdx-backed : (state : State) (t a mask : ℕ) → KeepsBacked (by_thread t) state (pdx state t a mask).0
pdx-backed state t a mask = grind (arith, unless_refused-backed, by_thread-backed)

pub ret-backed : (state : State) (t : ℕ) → KeepsBacked (by_thread t) state (ret state t).0
ret-backed state t = grind (arith, unless_refused-backed, by_thread-backed)

pub apddel-backed : (state : State) (t index : ℕ) → KeepsBacked (by_thread t) state (apddel state t index).0
apddel-backed state t index = grind (arith, unless_refused-backed, by_thread-backed)

-- frames below the last frame do not matter
last_slots-cons : (frame : CallFrame) (frames : List CallFrame) → 0 < length frames → last_slots (frame ∷ frames) ≡ last_slots frames
last_slots-cons frame frames some = grind arith

-- the slots that are stored in the last frame, if there is one
last_slots-put : (frame : CallFrame) (frames : List CallFrame) (slots : List Slot) → last_slots (with_last_slots (frame ∷ frames) slots) ≡ slots
last_slots-put frame [] slots = refl
last_slots-put frame (next ∷ frames) slots = grind (arith, (last_slots-put next frames slots), length-with_last_slots, last_slots-cons)

-- one slot more takes none away
more_slots : (frames : List CallFrame) (new : Slot) → KeepsSlots (last_slots frames) (last_slots (with_last_slots frames (last_slots frames ++ new ∷ [])))
more_slots [] new = λ slot there. there
more_slots (frame ∷ frames) new = λ slot there.
    subst (λ (slots : List Slot). Contains slots slot) (sym (last_slots-put frame frames (last_slots (frame ∷ frames) ++ new ∷ [])))
    (Contains-append_left (last_slots (frame ∷ frames)) (new ∷ []) slot there)

pub apdadd-backed : (state : State) (t clist password : ℕ) → KeepsBacked by_none state (apdadd state t clist password).0
apdadd-backed state t clist password =
    let new : Slot = record { base = clist; password = password } in
    let change : ThreadRow → ThreadRow = λ thread. record thread { frames = with_last_slots thread.frames (domain_of state t ++ new ∷ []) } in
    unless_refused-backed by_none state _ (with_thread state t change, _)
    (λ _ seat _. threads-backed state t change seat (λ row _ is. subst (λ (slots : List Slot). KeepsSlots (last_slots row.frames) (last_slots (with_last_slots row.frames (slots ++ new ∷ [])))) (sym (domain_of-row state t row is)) (more_slots row.frames new)))

pub resume-backed : (state : State) (t i : ℕ) → KeepsBacked by_none state (resume state t i).0
resume-backed state t i = grind (arith, unless_refused-backed, frames-backed)

-- one thread less: the slots of the others
pub end-backed : (state : State) (t i : ℕ) → KeepsBacked (by_thread i) state (end_thread state t i).0
end-backed state t i =
    let new : State = record state { threads = filter (λ (thread : Thread). not (eqb thread.number i)) state.threads } in
    unless_refused-backed (by_thread i) state _ (new, _)
    (λ _ seat other. rests-backed state new seat refl refl
    (λ slot there. subst (λ (o : Option Thread). Contains (option_map_or (λ (thread : Thread). last_slots thread.row.frames) o []) slot)
    (sym (find-without i seat.thread state.threads (λ same. eqb-false _ _ other (sym same)))) there))

-- a thread with a slot has another number than a new one
no_thread : (state : State) (seat : Seat) (number : ℕ) (slot : Slot) → All (λ (thread : Thread). thread.number ≢ number) state.threads → Contains (domain_of state seat.thread) slot → number ≢ seat.thread
no_thread state seat number slot free there same = grind (arith, find-none, ne_eqb)

pub thread-backed : (state : State) (t pc : ℕ) → IsWellFormed state → KeepsBacked by_none state (make_thread state t pc).0
thread-backed state t pc formed =
    let number = free_number state.threads in
    let made : Thread = new_thread number (state.counters.births + 1) (birth_of state t) pc (domain_of state t) in
    let new : State = record (born state) { threads = with_new_thread made state.threads } in
    unless_refused-backed by_none state _ (new, _)
    (λ _ seat _ backed.
    let other : number ≢ seat.thread = no_thread state seat number backed.slot (free_number-free state.counters.births state.threads formed.threads).free backed.slots in
    rests-backed state new seat refl refl
    (λ slot there. subst (λ (o : Option Thread). Contains (option_map_or (λ (thread : Thread). last_slots thread.row.frames) o []) slot)
    (sym (find-with_new_thread seat.thread made state.threads other)) there)
    backed)

-- accounts do not matter
pub account-backed : (state : State) (account password amount : ℕ) → KeepsBacked by_none state (open_account state account password amount).0
account-backed state account password amount = grind (arith, unless_refused-backed, rests-backed)

pub pay-backed : (state : State) (account password to amount : ℕ) → KeepsBacked by_none state (pay state account password to amount).0
pay-backed state account password to amount = grind (arith, unless_refused-backed, rests-backed)

-- a collection of rent ends every seat: passwords end with the period
pub rent-backed : (state : State) → KeepsBacked by_each state (rent state).0
rent-backed state seat never = absurd (cc)

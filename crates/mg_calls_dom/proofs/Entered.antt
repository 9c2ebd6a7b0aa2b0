-- What `pdx` and `ret` make of their rows, by their tests.
use Rattle.mg_access.specs.{RefusalLemmas.{access_passed, access_stopped}, Searching.access_refusal, ThreadLemmas.slots-of}
use Rattle.{mg_apd.specs.Refusals.leaving_refusal, mg_calls_dom.{proofs.Words.lives-ok, specs.Entering.pdx_refusal}}
use Rattle.{mg_laws.specs.Backing.CallsKeepBacked, mg_model.specs.{Abbreviations.{entered_slots, unless_refused}, Access.{allowed, last_slots}}}
use Rattle.mg_model.specs.{Access.thread_of, Accesses.line_words, Backed.{KeepsBacked, by_thread}, Domains.{frames_of, kept_from, last_back, pdx}}
use Rattle.mg_model.specs.{Domains.{ret, with_thread}, Limits.{frame_limit, slot_limit}, ObjectCalls.{is_aligned, is_entry, row_at}, Refused.Answer}
use Rattle.mg_model.specs.{Refused.first_refusal, State.{CallFrame, ObjectRow, State, Thread, ThreadRow}, Step.step, Threads.is_thread}
use Rattle.mg_model.specs.{Turn.thread_call, Warmth.{is_disturbing, is_ok}, WellFormed.IsWellFormed, declared.calls.Line.Line}
use Rattle.mg_model.specs.declared.replies.Refusal.{Refusal, TheVariants.{Align, Denied, Depth, NoEntry, NoFrame, SlotFull}}
use Rattle.mg_model.specs.declared.{replies.Reply.TheVariants.{Count, No}, rights.Right.TheVariants.P, seats.Seat.Seat, slots.Slot.Slot}
use Rattle.{mg_vcache.specs.{SeatLemmas.backed_without, Seats.{AllBacked, without}}, std.proofs.Common.{ℕ, ◌+◌, ◌-◌, ◌≡◌, ◌++◌, Bool, not, true}}
use Rattle.std.proofs.Common.{false, List, [], ◌∷◌, if◌then◌else◌, length, take, Option, Some, None, refl, sym, ap, subst, ◌∙◌}
use Rattle.std.{proofs.lemmas.Bool.and_from, specs.{Option.{option_map_or, option_to_list}, Prelude.{nat_le, nat_lt, option_map}}}
use Rattle.mg_apd.specs.Refusals as apd
use Rattle.mg_model.specs.declared.calls.Call.TheVariants as call

-- the frames of a thread, by its row
frames-in : (found : Option Thread) (thread : ThreadRow) → option_map (λ (x : Thread). x.row) found ≡ Some thread → option_map_or (λ (x : Thread). x.row.frames) found [] ≡ thread.frames
frames-in None thread h = cc
frames-in (Some x) thread h = let same : x.row ≡ thread = cc in ap (λ (r : ThreadRow). r.frames) same

-- the frame that an entry adds, and the frame that a return removes
abbrev pub entering : ℕ → List Slot → ThreadRow → ThreadRow
entering a slots thread = record thread { pc = a; frames = thread.frames ++ record { back = thread.pc; slots = slots } ∷ [] }

abbrev pub leaving : ThreadRow → ThreadRow
leaving thread = record thread { pc = last_back thread.frames; frames = take (length thread.frames - 1) thread.frames }

module _ (state : State) (t : ℕ) (thread : ThreadRow) (there : option_map (λ (x : Thread). x.row) (thread_of state t) ≡ Some thread) where
  frames-are : frames_of state t ≡ thread.frames
  frames-are = frames-in (thread_of state t) thread there

  -- `ret`
  pub ret-is : (word : Option Refusal) → word ≡ leaving_refusal thread → ret state t ≡ unless_refused word state (with_thread state t leaving, Count (length thread.frames - 1))
  ret-is word is =
      ap (λ (frames : List CallFrame). unless_refused (first_refusal ((nat_le (length frames) 1, NoFrame) ∷ [])) state (with_thread state t leaving, Count (length frames - 1))) frames-are
      ∙ ap (λ w. unless_refused w state (with_thread state t leaving, Count (length thread.frames - 1))) (sym is)

  module _ (a mask : ℕ) where
    abbrev by_tests : ObjectRow → List CallFrame → List Slot → List (Bool × Refusal)
    by_tests object frames slots = (not (is_entry object a), NoEntry) ∷ (nat_le frame_limit (length frames), Depth) ∷ (nat_lt slot_limit (length slots), SlotFull) ∷ []

    abbrev by_parts : ObjectRow → List CallFrame → List Slot → Answer
    by_parts object frames slots =
        unless_refused (first_refusal ((not (is_aligned a), Align) ∷ (not (allowed state t a P), Denied) ∷ by_tests object frames slots)) state
        (with_thread state t (entering a slots), Count (length frames + 1))

    -- `pdx`, if the access is allowed
    pub pdx-is : (object : ObjectRow) (word : Option Refusal) → row_at state a ≡ object → access_refusal state t a P ≡ None → word ≡ pdx_refusal thread object a mask
        → pdx state t a mask ≡ unless_refused word state (with_thread state t (entering a (apd.entered_slots thread mask object.extension)), Count (length thread.frames + 1))
    pdx-is object word named may is =
        ap (λ (o : ObjectRow). by_parts o (frames_of state t) (kept_from mask 0 (option_map_or (λ (x : Thread). last_slots x.row.frames) (thread_of state t) []) ++ option_to_list o.extension)) named
        ∙ ap (λ slots. by_parts object (frames_of state t) (kept_from mask 0 slots ++ option_to_list object.extension)) (slots-of (thread_of state t) thread there)
        ∙ ap (λ frames. by_parts object frames (apd.entered_slots thread mask object.extension)) frames-are
        ∙ ap (λ w. unless_refused w state (with_thread state t (entering a (apd.entered_slots thread mask object.extension)), Count (length thread.frames + 1)))
        (access_passed (not (is_aligned a)) (not (allowed state t a P)) (by_tests object thread.frames (apd.entered_slots thread mask object.extension)) may ∙ sym is)

-- `pdx`, if it is not
pub pdx-denied : (state : State) (t a mask : ℕ) (word : Refusal) → access_refusal state t a P ≡ Some word → pdx state t a mask ≡ (state, No word)
pdx-denied state t a mask word some =
    ap (λ w. unless_refused w state (with_thread state t (entering a (entered_slots state t a mask)), Count (length (frames_of state t) + 1)))
    (access_stopped (not (is_aligned a)) (not (allowed state t a P)) word
    ((not (is_entry (row_at state a) a), NoEntry) ∷ (nat_le frame_limit (length (frames_of state t)), Depth) ∷ (nat_lt slot_limit (length (entered_slots state t a mask)), SlotFull) ∷ [])
    some)

-- the line of a `pdx`
module _ (state : State) (t a mask : ℕ) where
  abbrev line : Line
  line = record { thread = t; call = call.Pdx a mask }

  neither : (v : Bool) → (let n : ℕ = if v then 0 else 0 in n) ≡ 0
  neither true = refl
  neither false = refl

  -- it has no word of its own
  pub no-words : line_words state (record { thread = t; call = call.Pdx a mask }) ≡ 0
  no-words = neither (is_thread state t)

  -- when it is done it disturbs, and ends the seats of its thread alone
  module _ (new : State) (n : ℕ) (done : pdx state t a mask ≡ (new, Count n)) where
    pub entering-disturbs : is_thread state t ≡ true → is_disturbing state (record { thread = t; call = call.Pdx a mask }) ≡ true
    entering-disturbs is = and_from (is_ok (step state line).1) true (lives-ok state (is_thread state t) (pdx state t a mask) is (ap (λ (answer : Answer). is_ok answer.1) done)) refl

    pub entering-backed : (seats seats' : List (Option Seat)) → IsWellFormed state → CallsKeepBacked (λ state t made. (thread_call state t made).0) → seats' ≡ without (by_thread t) seats → AllBacked state seats → AllBacked new seats'
    entering-backed seats seats' formed keeps dropped all =
        let kept : KeepsBacked (by_thread t) state new = subst (λ (answer : Answer). KeepsBacked (by_thread t) state answer.0) done (keeps state t (call.Pdx a mask) formed) in
        subst (λ s. AllBacked new s) (sym dropped) (backed_without (by_thread t) state new seats kept all)

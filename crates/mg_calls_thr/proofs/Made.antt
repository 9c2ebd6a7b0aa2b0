-- What `thread` makes of its row, by its tests.
use Rattle.mg_access.specs.{RefusalLemmas.{access_passed, access_stopped}, Searching.access_refusal, ThreadLemmas.slots-of}
use Rattle.{mg_calls_thr.{proofs.Owned.birth-of, specs.Making.first_row}, mg_laws.specs.Backing.CallsKeepBacked}
use Rattle.mg_model.specs.{Abbreviations.{free_number, unless_refused}, Access.{allowed, domain_of, last_slots, thread_of}, Accesses.line_words}
use Rattle.mg_model.specs.{Backed.{KeepsBacked, by_none}, Limits.{birth_limit, thread_limit}, ObjectCalls.is_aligned, Refused.Answer, State.Counters}
use Rattle.mg_model.specs.{State.{State, Thread, ThreadRow}, Threads.{birth_of, is_thread, make_thread, new_thread, with_new_thread}}
use Rattle.mg_model.specs.{Turn.thread_call, WellFormed.{IsThread, IsWellFormed}, declared.replies.Refusal.{Refusal, TheVariants.Limit}}
use Rattle.mg_model.specs.declared.{replies.Reply.{Reply, TheVariants.{Count, No}}, rights.Right.TheVariants.X, seats.Seat.Seat, slots.Slot.Slot}
use Rattle.{mg_vcache.specs.{SeatLemmas.backed_still, Seats.AllBacked}, mg_volume.specs.{Held.VolumeHeld, Meaning.{now_of, threads_in}}}
use Rattle.{mg_volume.specs.{Staging.threads_with, StateLemmas.now_threads}, std.proofs.Common.{ℕ, ◌+◌, ◌≡◌, ◌≤◌, ◌||◌, ◌==◌, Bool, not, true, false}}
use Rattle.std.proofs.{Common.{List, [], ◌∷◌, if◌then◌else◌, length, Option, Some, None, refl, sym, ap, subst, ◌∙◌}, Math.Nat.min-eq_left}
use Rattle.std.{proofs.lemmas.List.Elements.{All-head, All-tail}, specs.{List.list_any, Prelude.{All, find, map, min, nat_le, option_map}}}
use Rattle.mg_model.specs.declared.calls.Call.TheVariants as call

-- whether there may be no more threads
abbrev pub is_full : List Thread → Counters → Bool
is_full threads counters = nat_le thread_limit (length threads) || nat_le birth_limit counters.births

-- what is made if it may be made, by what it is made of
abbrev made_by : State → ℕ → ℕ → Counters → ℕ → List Slot → List Thread → Answer
made_by state pc number counters creator slots threads =
    (record state { counters = record counters { births = counters.births + 1 }; threads = with_new_thread (new_thread number (counters.births + 1) creator pc slots) threads }, Count number)

abbrev pub made_of : State → ℕ → ℕ → Answer
made_of state t pc = made_by state pc (free_number state.threads) state.counters (birth_of state t) (domain_of state t) state.threads

module _ (state : State) (t pc : ℕ) where
  -- when the access is not allowed
  pub make-denied : (word : Refusal) → access_refusal state t pc X ≡ Some word → make_thread state t pc ≡ (state, No word)
  make-denied word some =
      ap (λ w. unless_refused w state (made_of state t pc)) (access_stopped (not (is_aligned pc)) (not (allowed state t pc X)) word ((is_full state.threads state.counters, Limit) ∷ []) some)

  -- when it is
  make-by : access_refusal state t pc X ≡ None → make_thread state t pc ≡ unless_refused (if is_full state.threads state.counters then Some Limit else None) state (made_of state t pc)
  make-by may = ap (λ w. unless_refused w state (made_of state t pc)) (access_passed (not (is_aligned pc)) (not (allowed state t pc X)) ((is_full state.threads state.counters, Limit) ∷ []) may)

  module _ (threads : List Thread) (counters : Counters) (same_threads : state.threads ≡ threads) (same_counters : state.counters ≡ counters) where
    full-is : (v : Bool) → is_full threads counters ≡ v → is_full state.threads state.counters ≡ v
    full-is v is = ap (λ (x : List Thread). is_full x state.counters) same_threads ∙ ap (λ (k : Counters). is_full threads k) same_counters ∙ is

    pub make-full : access_refusal state t pc X ≡ None → is_full threads counters ≡ true → make_thread state t pc ≡ (state, No Limit)
    make-full may full = make-by may ∙ ap (λ v. unless_refused (if v then Some Limit else None) state (made_of state t pc)) (full-is true full)

    pub make-done : access_refusal state t pc X ≡ None → is_full threads counters ≡ false → make_thread state t pc ≡ made_of state t pc
    make-done may room = make-by may ∙ ap (λ v. unless_refused (if v then Some Limit else None) state (made_of state t pc)) (full-is false room)

    -- what is staged is the state after it
    pub made : (mid new : State) (maker : ThreadRow) (number : ℕ) → option_map (λ (x : Thread). x.row) (thread_of state t) ≡ Some maker → maker.birth ≤ counters.births → number ≡ free_number threads
        → mid ≡ record state { counters = record counters { births = counters.births + 1 } } → new ≡ record mid { threads = with_new_thread (record { number = number; row = first_row maker counters.births pc }) threads }
        → made_of state t pc ≡ (new, Count number)
    made mid new maker number there early number_is mid_is new_is =
        let creator : birth_of state t ≡ min maker.birth counters.births = birth-of (thread_of state t) maker there ∙ sym (min-eq_left early) in
        ap (λ (x : List Thread). made_by state pc (free_number x) state.counters (birth_of state t) (domain_of state t) x) same_threads
        ∙ ap (λ (k : Counters). made_by state pc (free_number threads) k (birth_of state t) (domain_of state t) threads) same_counters
        ∙ ap (λ b. made_by state pc (free_number threads) counters b (domain_of state t) threads) creator
        ∙ ap (λ slots. made_by state pc (free_number threads) counters (min maker.birth counters.births) slots threads) (slots-of (thread_of state t) maker there)
        ∙ ap (λ n. made_by state pc n counters (min maker.birth counters.births) (last_slots maker.frames) threads) (sym number_is)
        ∙ ap (λ (s : State). (record s { threads = with_new_thread (record { number = number; row = first_row maker counters.births pc }) threads }, Count number)) (sym mid_is)
        ∙ ap (λ (s : State). (s, Count number)) (sym new_is)

  -- the line has no word of its own
  pub no-words : line_words state (record { thread = t; call = call.Thread pc }) ≡ 0
  no-words = neither (is_thread state t)
    where
      neither : (v : Bool) → (let n : ℕ = if v then 0 else 0 in n) ≡ 0
      neither true = refl
      neither false = refl

  -- it ends no seat
  pub making-backed : (new : State) (reply : Reply) (seats : List (Option Seat)) → make_thread state t pc ≡ (new, reply) → IsWellFormed state → CallsKeepBacked (λ state t made. (thread_call state t made).0) → AllBacked state seats → AllBacked new seats
  making-backed new reply seats done formed keeps all =
      let kept : KeepsBacked by_none state new = subst (λ (answer : Answer). KeepsBacked by_none state answer.0) done (keeps state t (call.Thread pc) formed) in
      backed_still state new seats kept all

-- a thread that has this row was born by now
pub born-by : (births t : ℕ) (threads : List Thread) (maker : ThreadRow) → All (λ (x : Thread). IsThread births x) threads → option_map (λ (x : Thread). x.row) (find (λ (x : Thread). x.number == t) threads) ≡ Some maker → maker.birth ≤ births
born-by births t [] maker all h = cc
born-by births t (thread ∷ threads) maker all h =
    by_test (thread.number == t) (All-head (λ (x : Thread). IsThread births x) thread threads all).born (born-by births t threads maker (All-tail (λ (x : Thread). IsThread births x) thread threads all)) h
  where
    by_test : (v : Bool) → thread.row.birth ≤ births → (option_map (λ (x : Thread). x.row) (find (λ (x : Thread). x.number == t) threads) ≡ Some maker → maker.birth ≤ births)
        → option_map (λ (x : Thread). x.row) (if v then Some thread else find (λ (x : Thread). x.number == t) threads) ≡ Some maker → maker.birth ≤ births
    by_test true here later h = let same : thread.row ≡ maker = cc in subst (λ (r : ThreadRow). r.birth ≤ births) same here
    by_test false here later h = later h

-- the counters that are staged leave the threads
pub counted-threads : (old mid : VolumeHeld) (counters : Counters) → ((image : List (List ℕ)) → now_of mid image ≡ record (now_of old image) { counters = counters }) → threads_in mid ≡ threads_in old
counted-threads old mid counters now = sym (now_threads mid []) ∙ ap (λ (s : State). s.threads) (now []) ∙ now_threads old []

-- a thread that was not there, as it is staged
pub joined : (mid : State) (held threads : List Thread) (number : ℕ) (row made : ThreadRow) → held ≡ threads → list_any (λ (x : Thread). x.number == number) threads ≡ false → row ≡ made
    → record mid { threads = threads_with number (Some row) held } ≡ record mid { threads = with_new_thread (record { number = number; row = made }) threads }
joined mid held threads number row made same new is =
    ap (λ (x : List Thread). record mid { threads = threads_with number (Some row) x }) same
    ∙ ap (λ v. record mid { threads = (if v then map (λ (x : Thread). if x.number == number then record x { row = row } else x) threads else with_new_thread (record { number = number; row = row }) threads) }) new
    ∙ ap (λ (r : ThreadRow). record mid { threads = with_new_thread (record { number = number; row = r }) threads }) is

-- Which thread has the next turn, and what the cursor leaves.
use Rattle.{mg_disk.specs.Disk.Image, mg_laws.specs.{Backing.BackingRestsOnDomain, Laws.{RanNext, RunsNextReady}, Scripts.RestsOnNoCursor}}
use Rattle.{mg_laws.specs.Scripts.at_cursor, mg_model.specs.{Access.thread_of, Backed.{KeepsBacked, by_none}, Domains.row_of}}
use Rattle.mg_model.specs.{KeptListLemmas.{AllPairs-head, AllPairs-tail}, State.{State, Thread, ThreadRow}, Turn.{outcome_of, is_ready, next, picked}}
use Rattle.mg_model.specs.{Turn.{ready_above, run_next, thread_is_ready, turn_state}, WellFormed.IsWellFormed, declared.replies.Reply.TheVariants.Ran}
use Rattle.{mg_model.specs.declared.{seats.Seat.Seat, threads.After.After}, mg_vcache.specs.{SeatLemmas.backed_still, Seats.AllBacked}}
use Rattle.{mg_volume.specs.{Held.VolumeHeld, Meaning.{now_of, threads_in}, StateLemmas.now_threads}, std.proofs.Common.{arith, refl, sym, ap, subst}}
use Rattle.std.proofs.{Common.◌∙◌, lemmas.{Bool.{cond_both, eq-eqb, ne_eqb}, List.Elements.{All-head, All-tail}, Option.same_Some}}
use Rattle.std.specs.{Option.{option_map_or, option_or}, Prelude.{◌≡◌, ◌<◌, ◌==◌, ◌&&◌, ℕ, nat_lt, Bool, true, false, List, [], ◌∷◌, All, AllPairs}}
use Rattle.std.specs.Prelude.{Option, Some, None, find, if◌then◌else◌, option_map}

-- the thread that is picked, by its number
pub record Picks (state : State) (n : ℕ) : Type 0 where
  pub thread : Thread
  pub is : picked state ≡ Some thread
  pub number : thread.number ≡ n

pub picks : (state : State) (n : ℕ) → Some n ≡ option_map (λ (thread : Thread). thread.number) (picked state) → Picks state n
picks state n numbered = by_picked (picked state) refl numbered
  where
    by_picked : (o : Option Thread) → picked state ≡ o → Some n ≡ option_map (λ (thread : Thread). thread.number) o → Picks state n
    by_picked None is numbered = cc
    by_picked (Some thread) is numbered = let same : thread.number ≡ n = cc in record { thread = thread; is = is; number = same }

-- a thread that is found is found by its number
found-numbered : (test : Thread → Bool) (threads : List Thread) (thread : Thread) → find test threads ≡ Some thread → find (λ (other : Thread). other.number == thread.number) threads ≡ None → ⊥
found-numbered test [] thread found none = cc
found-numbered test (x ∷ xs) thread found none =
    cond_both (x.number == thread.number) (Some x) (find (λ (other : Thread). other.number == thread.number) xs) (λ o. o ≡ None → ⊥)
    (λ here some. cc)
    (λ other later. cond_both (test x) (Some x) (find test xs) (λ o. o ≡ Some thread → ⊥) (λ passes is. unlike x thread other is) (λ fails is. found-numbered test xs thread is later) found)
    none
  where
    unlike : (a b : Thread) → (a.number == b.number) ≡ false → Some a ≡ Some b → ⊥
    unlike a b other is =
        let same : a ≡ b = cc in
        let numbers : (a.number == b.number) ≡ true = eq-eqb a.number b.number (ap (λ (x : Thread). x.number) same) in
        cc

picked-numbered : (threads : List Thread) (cursor : ℕ) (first : Option Thread) (thread : Thread) → ready_above cursor threads ≡ first → option_or first (ready_above 0 threads) ≡ Some thread
    → find (λ (other : Thread). other.number == thread.number) threads ≡ None → ⊥
picked-numbered threads cursor None thread is picks = found-numbered (λ (x : Thread). is_ready x.row.state && nat_lt 0 x.number) threads thread picks
picked-numbered threads cursor (Some other) thread is picks = found-numbered (λ (x : Thread). is_ready x.row.state && nat_lt cursor x.number) threads thread (is ∙ picks)

-- so the thread that is picked is held
pub picked-held : (v : VolumeHeld) (n : ℕ) → ((image : Image) → Some n ≡ option_map (λ (thread : Thread). thread.number) (picked (now_of v image))) → option_map (λ (thread : Thread). thread.row) (find (λ (thread : Thread). thread.number == n) (threads_in v)) ≡ None → ⊥
picked-held v n numbered none =
    let state = now_of v [] in
    let has = picks state n (numbered []) in
    picked-numbered state.threads state.counters.cursor (ready_above state.counters.cursor state.threads) has.thread refl has.is
    (ap (λ threads. find (λ (other : Thread). other.number == has.thread.number) threads) (now_threads v []) ∙ ap (λ k. find (λ (other : Thread). other.number == k) (threads_in v)) has.number ∙ unmapped (find (λ (thread : Thread). thread.number == n) (threads_in v)) none)
  where
    unmapped : (o : Option Thread) → option_map (λ (thread : Thread). thread.row) o ≡ None → o ≡ None
    unmapped None is = refl
    unmapped (Some thread) is = cc

-- In a state that is well formed its number finds it.
found-of : (P : Thread → Type 0) (test : Thread → Bool) (threads : List Thread) (thread : Thread) → All P threads → find test threads ≡ Some thread → P thread
found-of P test [] thread all found = cc
found-of P test (x ∷ xs) thread all found =
    cond_both (test x) (Some x) (find test xs) (λ o. o ≡ Some thread → P thread) (λ passes is. subst P (same_Some x thread is) (All-head P x xs all)) (λ fails is. found-of P test xs thread (All-tail P x xs all) is) found

found-same : (test : Thread → Bool) (threads : List Thread) (thread : Thread) → AllPairs (λ (x y : Thread). x.number < y.number) threads → find test threads ≡ Some thread → find (λ (other : Thread). other.number == thread.number) threads ≡ Some thread
found-same test [] thread ordered found = found
found-same test (x ∷ xs) thread ordered found =
    cond_both (test x) (Some x) (find test xs) (λ o. o ≡ Some thread → (if x.number == thread.number then Some x else find (λ (other : Thread). other.number == thread.number) xs) ≡ Some thread)
    (λ passes is. ap (λ v. if v then Some x else find (λ (other : Thread). other.number == thread.number) xs) (eq-eqb x.number thread.number (ap (λ (y : Thread). y.number) (same_Some x thread is))) ∙ is)
    (λ fails is.
    let below : x.number < thread.number = found-of (λ y. x.number < y.number) test xs thread (AllPairs-head (λ (y z : Thread). y.number < z.number) x xs ordered) is in
    ap (λ v. if v then Some x else find (λ (other : Thread). other.number == thread.number) xs) (ne_eqb x.number thread.number (λ same. omega arith))
    ∙ found-same test xs thread (AllPairs-tail (λ (y z : Thread). y.number < z.number) x xs ordered) is)
    found

picked-same : (threads : List Thread) (cursor : ℕ) (first : Option Thread) (thread : Thread) → AllPairs (λ (x y : Thread). x.number < y.number) threads → ready_above cursor threads ≡ first → option_or first (ready_above 0 threads) ≡ Some thread
    → find (λ (other : Thread). other.number == thread.number) threads ≡ Some thread
picked-same threads cursor None thread ordered is picks = found-same (λ (x : Thread). is_ready x.row.state && nat_lt 0 x.number) threads thread ordered picks
picked-same threads cursor (Some other) thread ordered is picks = found-same (λ (x : Thread). is_ready x.row.state && nat_lt cursor x.number) threads thread ordered (is ∙ picks)

-- so it is the thread with this row
pub picked-row : (state : State) (n : ℕ) (row : ThreadRow) → IsWellFormed state → Picks state n → row_of state n ≡ Some row → picked state ≡ Some (record { number = n; row = row })
picked-row state n row formed has there =
    let own : thread_of state n ≡ Some has.thread =
    ap (λ k. find (λ (other : Thread). other.number == k) state.threads) (sym has.number) ∙ picked-same state.threads state.counters.cursor (ready_above state.counters.cursor state.threads) has.thread formed.threads.ordered refl has.is in
    let same : has.thread.row ≡ row = same_Some has.thread.row row (sym (ap (λ (o : Option Thread). option_map_or (λ (x : Thread). Some x.row) o None) own) ∙ there) in
    has.is ∙ ap (λ (k : ℕ). Some (record { number = k; row = has.thread.row })) has.number ∙ ap (λ (r : ThreadRow). Some (record { number = n; row = r })) same

module _ (state : State) (n : ℕ) (has : Picks state n) where
  -- it is Ready
  pub picked-ready : RunsNextReady next → IsWellFormed state → thread_is_ready state n ≡ true
  picked-ready law formed =
      let ran : RanNext state (run_next state (Some has.thread)).1 = subst (λ o. RanNext state (run_next state o).1) has.is (law state formed) in
      subst (λ k. thread_is_ready state k ≡ true) has.number ran.ready

  -- what `next` is answered
  pub next-runs : (middle last : State) (left : After) → RestsOnNoCursor turn_state → turn_state state n ≡ middle → left ≡ outcome_of middle n → last ≡ at_cursor middle n → next state ≡ (last, Ran n left)
  next-runs middle last left law turns after moves =
      ap (λ o. run_next state o) has.is
      ∙ ap (λ k. (turn_state (at_cursor state k) k, Ran k (outcome_of (turn_state (at_cursor state k) k) k))) has.number
      ∙ ap (λ (s : State). (s, Ran n (outcome_of s n))) (law state n n ∙ ap (λ s. at_cursor s n) turns)
      ∙ ap (λ l. (at_cursor middle n, Ran n l)) (sym after)
      ∙ ap (λ s. (s, Ran n left)) (sym moves)

-- no seat rests on the cursor
pub cursor-backed : (state last : State) (n : ℕ) (seats : List (Option Seat)) → BackingRestsOnDomain → last ≡ at_cursor state n → AllBacked state seats → AllBacked last seats
cursor-backed state last n seats rests moves all =
    let keeps : KeepsBacked by_none state (at_cursor state n) = λ seat none was. rests state (at_cursor state n) seat refl refl (λ slot has. has) was in
    subst (λ s. AllBacked s seats) (sym moves) (backed_still state (at_cursor state n) seats keeps all)

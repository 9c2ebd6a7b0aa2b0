-- A thread's turn: a fetch, a call, and then another row for the thread.
use Rattle.{mg_access.specs.ReachedLemmas.same_threads, mg_disk.specs.{Disk.Image, declared.disk.Disk.Ghosts}, mg_kernel.proofs.Threads.found-lives}
use Rattle.{mg_kernel.specs.Calls.IsRowOf, mg_model.specs.{Abbreviations.{advanced, unless_refused}, Backed.{KeepsBacked, by_none}}}
use Rattle.mg_model.specs.{Counts.CountsAlike, Domains.{row_of, with_thread}, Refused.{Answer, first_refusal}, State.{State, Thread, ThreadRow}}
use Rattle.mg_model.specs.{Step.of_thread, Threads.is_thread, Turn.{outcome_of, as_after, is_ready, thread_call, thread_is_ready, turn, turn_state}}
use Rattle.mg_model.specs.{WellFormed.IsWellFormed, declared.{calls.Call.Call, replies.{Refusal.TheVariants.{NoThread, NotReady}, Reply.Reply}}}
use Rattle.mg_model.specs.declared.{replies.Reply.TheVariants.{No, Turned}, seats.Seat.Seat, threads.{After.After, ThrState.ThrState}}
use Rattle.{mg_model.specs.declared.threads.ThrState.TheVariants.{Faulted, Ready, Stopped}, mg_script.specs.Effects.{HasFrames, IsSpelledBy, begun}}
use Rattle.mg_script.specs.{Effects.{finished, made_by, resumed, turned_on}, Turns.{IsAsked, TurnsAreCalls, TurnsRowsKeepBacked, fetched_word}}
use Rattle.{mg_script.specs.{Turns.turn_call, declared.effects.Effect.Effect}, mg_vcache.specs.{SeatLemmas.backed_still, Seats.AllBacked}}
use Rattle.mg_volume.specs.{Calls.{Serves, Stages}, Held.VolumeHeld, Meaning.{Keeps, now_of, threads_in, words_in}, RunLemmas.still_then}
use Rattle.{mg_volume.specs.{RunLemmas.told_thread, Staging.lives as lives_held, StateLemmas.staged_stands}, std.proofs.Common.{arith, refl, sym, ap}}
use Rattle.std.{proofs.{Common.{subst, ◌∙◌}, lemmas.Option.same_Some}, specs.{List.list_any, Option.option_map_or, Prelude.{◌≡◌, ◌+◌, ◌==◌, ◌||◌, ℕ}}}
use Rattle.std.specs.Prelude.{not, Bool, true, false, List, [], ◌∷◌, Option, Some, None, find, if◌then◌else◌, is_some, map, option_map, IfSome}
use Rattle.mg_model.specs.declared.threads.After.TheVariants as after_turn

-- a thread by its row
pub record HasRow (o : Option Thread) (row : ThreadRow) : Type 0 where
  pub thread : Thread
  pub is : o ≡ Some thread
  pub same : thread.row ≡ row

has-row : (o : Option Thread) (row : ThreadRow) → option_map (λ (thread : Thread). thread.row) o ≡ Some row → HasRow o row
has-row None row is = cc
has-row (Some thread) row is = let same : thread.row ≡ row = cc in record { thread = thread; is = refl; same = same }

module _ (v : VolumeHeld) (t : ℕ) (row : ThreadRow) (found : option_map (λ (thread : Thread). thread.row) (find (λ (thread : Thread). thread.number == t) (threads_in v)) ≡ Some row) where
  -- the thread lives
  pub row-lives : lives_held v t ≡ true
  row-lives = let has = has-row (find (λ (thread : Thread). thread.number == t) (threads_in v)) row found in found-lives v t has.thread has.is

  pub row-thread : (image : Image) → is_thread (now_of v image) t ≡ true
  row-thread image =
      let has = has-row (find (λ (thread : Thread). thread.number == t) (threads_in v)) row found in
      let there = told_thread v image t (Some has.thread) has.is in
      ap is_some there

  -- and it has the row in the state
  pub row-told : (image : Image) → row_of (now_of v image) t ≡ Some row
  row-told image =
      let has = has-row (find (λ (thread : Thread). thread.number == t) (threads_in v)) row found in
      ap (λ o. option_map_or (λ (x : Thread). Some x.row) o None) (told_thread v image t (Some has.thread) has.is) ∙ ap (λ (r : ThreadRow). Some r) has.same

-- a thread that lives has a row
living-among : (t : ℕ) (threads : List Thread) → list_any (λ (x : Thread). x.number == t) threads ≡ true → (row : ThreadRow) × (option_map (λ (thread : Thread). thread.row) (find (λ (thread : Thread). thread.number == t) threads) ≡ Some row)
living-among t [] lives = absurd (cc)
living-among t (x ∷ xs) lives = by_test (x.number == t) lives (living-among t xs)
  where
    by_test : (v : Bool) → (v || list_any (λ (y : Thread). y.number == t) xs) ≡ true
        → (list_any (λ (y : Thread). y.number == t) xs ≡ true → (row : ThreadRow) × (option_map (λ (thread : Thread). thread.row) (find (λ (thread : Thread). thread.number == t) xs) ≡ Some row))
        → (row : ThreadRow) × (option_map (λ (thread : Thread). thread.row) (if v then Some x else find (λ (thread : Thread). thread.number == t) xs) ≡ Some row)
    by_test true here later = (x.row, refl)
    by_test false there later = later there

pub living-row : (v : VolumeHeld) (t : ℕ) → lives_held v t ≡ true → (row : ThreadRow) × IsRowOf v t row
living-row v t lives = living-among t (threads_in v) lives

no-row : (o : Option ThreadRow) (row : ThreadRow) → o ≡ Some row → o ≡ None → ⊥
no-row o row some none = cc

pub row-gone : (v : VolumeHeld) (t : ℕ) → lives_held v t ≡ true → option_map (λ (thread : Thread). thread.row) (find (λ (thread : Thread). thread.number == t) (threads_in v)) ≡ None → ⊥
row-gone v t lives none = let has = living-row v t lives in no-row (option_map (λ (thread : Thread). thread.row) (find (λ (thread : Thread). thread.number == t) (threads_in v))) has.0 has.1 none

-- two changes that turn the row that is found into one row
pub changes-alike : (f g : ThreadRow → ThreadRow) (o : Option Thread) (row : ThreadRow) → option_map (λ (thread : Thread). thread.row) o ≡ Some row → f row ≡ g row → IfSome o (λ thread. f thread.row ≡ g thread.row)
changes-alike f g None row found same = cc
changes-alike f g (Some thread) row found same = subst (λ r. f r ≡ g r) (sym (same_Some thread.row row found)) same

-- a run of reads leaves it its row
pub row-still : (a b : VolumeHeld) (t : ℕ) (row : ThreadRow) → Keeps a b → option_map (λ (thread : Thread). thread.row) (find (λ (thread : Thread). thread.number == t) (threads_in a)) ≡ Some row
    → option_map (λ (thread : Thread). thread.row) (find (λ (thread : Thread). thread.number == t) (threads_in b)) ≡ Some row
row-still a b t row keeps found = ap (λ threads. option_map (λ (thread : Thread). thread.row) (find (λ (thread : Thread). thread.number == t) threads)) (same_threads a b keeps) ∙ found

is-ready : (s : ThrState) → is_ready s ≡ true → s ≡ Ready
is-ready Ready is = refl
is-ready Stopped is = cc
is-ready (Faulted kind) is = cc

-- a thread is Ready if its row says so
pub ready-row : (state : State) (t : ℕ) (row : ThreadRow) → row_of state t ≡ Some row → thread_is_ready state t ≡ true → row.state ≡ Ready
ready-row state t row there ready = is-ready row.state (sym (ap (λ (o : Option ThreadRow). option_map_or (λ (r : ThreadRow). is_ready r.state) o false) there) ∙ ready)

pub row-ready : (state : State) (t : ℕ) (row : ThreadRow) (v : ThrState) → row_of state t ≡ Some row → row.state ≡ v → thread_is_ready state t ≡ is_ready v
row-ready state t row v there is = ap (λ (o : Option ThreadRow). option_map_or (λ (r : ThreadRow). is_ready r.state) o false) there ∙ ap is_ready is

-- the effect that a turn begins with is what it needs
pub asked-by : (state : State) (t : ℕ) (row : ThreadRow) (fetched : Option ℕ) (asked : Effect) (made : Call) → fetched ≡ fetched_word state t row → ((state : State) (t : ℕ) → turned_on state t row fetched ≡ finished state t (advanced row) asked)
    → made_by row asked ≡ begun row fetched → HasFrames row asked → made ≡ made_by row asked → IsSpelledBy asked made → IsAsked state t row asked
asked-by state t row fetched asked made is turns begins frames makes spelled = record {
  turn = subst (λ word. turned_on state t row word ≡ finished state t (advanced row) asked) is (turns state t);
  call = begins ∙ ap (λ word. begun row word) is;
  spelled = subst (λ call. IsSpelledBy asked call) (makes ∙ begins ∙ ap (λ word. begun row word) is) spelled;
  frames = frames;
}

-- The turn of a thread, from the state before it, that after its call, and that after its row.
module _ (state middle next : State) (t : ℕ) (row : ThreadRow) (asked : Effect) (made : Call) (reply : Reply) (formed : IsWellFormed state) (there : row_of state t ≡ Some row) (ready : row.state ≡ Ready) (asks : IsAsked state t row asked)
    (makes : made ≡ made_by row asked) (answer : thread_call state t made ≡ (middle, reply)) (goes : next ≡ with_thread middle t (λ r. resumed asked reply r)) where
  called : thread_call state t (turn_call state t row) ≡ (middle, reply)
  called = ap (λ call. thread_call state t call) (sym (makes ∙ asks.call)) ∙ answer

  pub turned-state : TurnsAreCalls → turn_state state t ≡ next
  turned-state law = law state t row asked formed there ready asks ∙ ap (λ (a : Answer). with_thread a.0 t (λ r. resumed asked a.1 r)) called ∙ sym goes

  pub turned-backed : TurnsRowsKeepBacked → (seats : List (Option Seat)) → AllBacked middle seats → AllBacked next seats
  turned-backed law seats all =
      let keeps : KeepsBacked by_none middle (with_thread middle t (λ r. resumed asked reply r)) =
      subst (λ (a : Answer). KeepsBacked by_none a.0 (with_thread a.0 t (λ r. resumed asked a.1 r))) called (law state t row asked formed there ready asks) in
      subst (λ s. AllBacked s seats) (sym goes) (backed_still middle (with_thread middle t (λ r. resumed asked reply r)) seats keeps all)

-- what `turn` is answered
module _ (state : State) (t : ℕ) (lives : is_thread state t ≡ true) where
  of-lives : of_thread state t (turn state t) ≡ turn state t
  of-lives = ap (λ v. if v then turn state t else (state, No NoThread)) lives

  tested : (v : Bool) → thread_is_ready state t ≡ v → turn state t ≡ unless_refused (first_refusal ((not v, NotReady) ∷ [])) state (turn_state state t, Turned (outcome_of (turn_state state t) t))
  tested v is = ap (λ b. unless_refused (first_refusal ((not b, NotReady) ∷ [])) state (turn_state state t, Turned (outcome_of (turn_state state t) t))) is

  pub turn-ready : (next : State) (left : After) → thread_is_ready state t ≡ true → turn_state state t ≡ next → left ≡ outcome_of next t → of_thread state t (turn state t) ≡ (next, Turned left)
  turn-ready next left ready is after = of-lives ∙ tested true ready ∙ ap (λ s. (s, Turned (outcome_of s t))) is ∙ ap (λ l. (next, Turned l)) (sym after)

  pub turn-refused : thread_is_ready state t ≡ false → of_thread state t (turn state t) ≡ (state, No NotReady)
  turn-refused waits = of-lives ∙ tested false waits

-- what a call served, and then was staged
module _ {D : Type 0} (facts : Ghosts D) where
  pub serves-stages : (n m : ℕ) (a b c : VolumeHeld) (d e : D) (s u : ℕ) → Serves n facts a b d e s u → Stages m b c → Serves (n + m) facts a c d e s u
  serves-stages n m a b c d e s u first more = record {
    stands = staged_stands facts b c e first.stands more.shape more.spelled;
    writes = first.writes;
    live = more.shape.live ∙ first.live;
    least = let some = first.least in let rest = more.least in omega arith;
    staged = let some = first.staged in let rest = more.staged in omega arith;
    still = still_then a b c first.still more.still;
    counted = subst (λ words. CountsAlike (words_in a) words s u) (sym more.shape.words) first.counted;
    count = first.count;
    blocks = first.blocks;
  }

-- A thread's row changes.
abbrev changed : ℕ → (ThreadRow → ThreadRow) → Thread → Thread
changed t change thread = if thread.number == t then record thread { row = change thread.row } else thread

abbrev row-among : List Thread → ℕ → Option ThreadRow
row-among threads t = option_map_or (λ (x : Thread). Some x.row) (find (λ (x : Thread). x.number == t) threads) None

module _ (t : ℕ) (change : ThreadRow → ThreadRow) where
  row-with : (threads : List Thread) (row : ThreadRow) → row-among threads t ≡ Some row → row-among (map (changed t change) threads) t ≡ Some (change row)
  row-with [] row found = cc
  row-with (x ∷ xs) row found = by_test (row-with xs row) (x.number == t) refl found
    where
      by_test : (row-among xs t ≡ Some row → row-among (map (changed t change) xs) t ≡ Some (change row)) → (v : Bool) → (x.number == t) ≡ v → option_map_or (λ (y : Thread). Some y.row) (if v then Some x else find (λ (y : Thread). y.number == t) xs) None ≡ Some row
          → row-among ((if v then record x { row = change x.row } else x) ∷ map (changed t change) xs) t ≡ Some (change row)
      by_test rest true is here =
          ap (λ b. option_map_or (λ (y : Thread). Some y.row) (if b then Some (record x { row = change x.row }) else find (λ (y : Thread). y.number == t) (map (changed t change) xs)) None) is ∙ ap (λ r. Some (change r)) (same_Some x.row row here)
      by_test rest false is later = ap (λ b. option_map_or (λ (y : Thread). Some y.row) (if b then Some x else find (λ (y : Thread). y.number == t) (map (changed t change) xs)) None) is ∙ rest later

  none-with : (threads : List Thread) → find (λ (x : Thread). x.number == t) threads ≡ None → map (changed t change) threads ≡ threads
  none-with [] none = refl
  none-with (x ∷ xs) none = by_test (none-with xs) (x.number == t) refl none
    where
      by_test : (find (λ (y : Thread). y.number == t) xs ≡ None → map (changed t change) xs ≡ xs) → (v : Bool) → (x.number == t) ≡ v → (if v then Some x else find (λ (y : Thread). y.number == t) xs) ≡ None → (if v then record x { row = change x.row } else x) ∷ map (changed t change) xs ≡ x ∷ xs
      by_test rest true is here = cc
      by_test rest false is later = ap (λ ys. x ∷ ys) (rest later)

  -- of the threads that are held
  pub changes-row : (o : Option Thread) (row row' : ThreadRow) → option_map (λ (thread : Thread). thread.row) o ≡ Some row → row' ≡ change row → IfSome o (λ thread. change thread.row ≡ row')
  changes-row None row row' is made = cc
  changes-row (Some thread) row row' is made = ap change (same_Some thread.row row is) ∙ sym made

  -- what the thread is then
  pub after-change : (state new : State) (row row' : ThreadRow) (left : After) → row_of state t ≡ Some row → new ≡ with_thread state t change → row' ≡ change row → left ≡ as_after row'.state → left ≡ outcome_of new t
  after-change state new row row' left there is made after =
      after ∙ ap (λ (r : ThreadRow). as_after r.state) made
      ∙ sym (ap (λ s. outcome_of s t) is ∙ ap (λ (o : Option ThreadRow). option_map_or (λ (r : ThreadRow). as_after r.state) o after_turn.Ended) (row-with state.threads row there))

  -- when the thread does not live, nothing changes
  pub no-change : (v : VolumeHeld) (image : Image) → find (λ (thread : Thread). thread.number == t) (threads_in v) ≡ None → now_of v image ≡ with_thread (now_of v image) t change
  no-change v image none =
      let state = now_of v image in
      sym (ap (λ threads. record state { threads = threads }) (none-with state.threads (told_thread v image t None none)))

  pub after-none : (v : VolumeHeld) (image : Image) → find (λ (thread : Thread). thread.number == t) (threads_in v) ≡ None → after_turn.Ended ≡ outcome_of (now_of v image) t
  after-none v image none = sym (ap (λ o. option_map_or (λ (r : ThreadRow). as_after r.state) (option_map_or (λ (x : Thread). Some x.row) o None) after_turn.Ended) (told_thread v image t None none))

pub unmapped : (o : Option Thread) → option_map (λ (thread : Thread). thread.row) o ≡ None → o ≡ None
unmapped None is = refl
unmapped (Some thread) is = cc

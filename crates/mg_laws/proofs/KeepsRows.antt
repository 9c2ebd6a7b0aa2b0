-- A change of one thread's row keeps the state well formed if the row stays a row of a thread, with its birth and its creator.
use Rattle.mg_model.specs.{Access.{domain_of, last_slots, thread_of}, Domains.{frames_of, row_of, with_thread}, KeptListLemmas.AllPairs-head}
use Rattle.mg_model.specs.{KeptListLemmas.AllPairs-tail, Ranges.IsThreadRow, State.{State, Thread, ThreadRow}, WellFormed.{AreThreads, IsFirst}}
use Rattle.{mg_model.specs.WellFormed.{IsThread, IsWellFormed}, std.proofs.Common.{ℕ, zero, suc, ◌<◌, ◌≡◌, ◌≢◌, cond, eqb, List, [], ◌∷◌, length}}
use Rattle.std.proofs.{Common.{get_or, map, Option, Some, None, refl, sym, ap, ◌∙◌, subst, arith}, lemmas.Bool.{cond_both, cond-true, cond-false}}
use Rattle.std.proofs.lemmas.{Bool.{eq-eqb, eqb-true, ne_eqb}, List.{get_or-map, length-map, Elements.All-map}, Option.same_Some}
use Rattle.std.specs.{Option.option_map_or, Prelude.{AllPairs, find}}

pub record KeepsRow (old new : ThreadRow) : Type 0 where
  pub row : IsThreadRow new
  pub birth : new.birth ≡ old.birth
  pub creator : new.creator ≡ old.creator

-- the thread with a change of its row, if it has the number
abbrev pub changed : ℕ → (ThreadRow → ThreadRow) → Thread → Thread
changed t change thread = cond (eqb thread.number t) (record thread { row = change thread.row }) thread

pub changed-number : (t : ℕ) (change : ThreadRow → ThreadRow) (thread : Thread) → (changed t change thread).number ≡ thread.number
changed-number t change thread = cond_both (eqb thread.number t) _ _ (λ (x : Thread). x.number ≡ thread.number) (λ _. refl) (λ _. refl)

abbrev pub IsBelow : Thread → Thread → Type 0
IsBelow x y = x.number < y.number

AllPairs-map : {X : Type 0} (R : X → X → Type 0) (f : X → X) (xs : List X) → AllPairs (λ x y. R (f x) (f y)) xs → AllPairs R (map f xs)
AllPairs-map R f xs pairs i j d below within =
    let inside : j < length xs = rw length-map at within in
    let before : i < length xs = omega arith in
    rw (get_or-map f xs i d d before, get_or-map f xs j d d inside) (pairs i j d below inside)

-- in the order of the numbers, the thread at a place is the thread that its number finds
pub find_at_place : (t : ℕ) (threads : List Thread) (k : ℕ) (d : Thread) → AllPairs IsBelow threads → k < length threads → (get_or threads k d).number ≡ t →
    find (λ (thread : Thread). eqb thread.number t) threads ≡ Some (get_or threads k d)
find_at_place t [] k d pairs within same = absurd (omega arith)
find_at_place t (x ∷ xs) zero d pairs within same = cond-true _ _ _ (eq-eqb _ _ same)
find_at_place t (x ∷ xs) (suc k) d pairs within same =
    let inside : k < length xs = omega arith in
    let below : x.number < (get_or xs k d).number = AllPairs-head IsBelow x xs pairs k d inside in
    let other : x.number ≢ t = omega arith in
    cond-false _ _ _ (ne_eqb _ _ other) ∙ find_at_place t xs k d (AllPairs-tail IsBelow x xs pairs) inside same

-- the thread that a number finds is at a place, and has the number
pub record IsFound (t : ℕ) (threads : List Thread) (thread : Thread) : Type 0 where
  pub place : ℕ
  pub within : place < length threads
  pub there : (d : Thread) → get_or threads place d ≡ thread
  pub number : thread.number ≡ t

pub found : (t : ℕ) (threads : List Thread) (thread : Thread) → find (λ (x : Thread). eqb x.number t) threads ≡ Some thread → IsFound t threads thread
found t [] thread is = absurd (cc)
found t (x ∷ xs) thread is =
    cond_both (eqb x.number t) (Some x) (find (λ (y : Thread). eqb y.number t) xs) (λ o. o ≡ Some thread → IsFound t (x ∷ xs) thread)
    (λ same there. record { place = 0; within = omega arith; there = λ d. same_Some _ _ there; number = ap (λ (y : Thread). y.number) (sym (same_Some _ _ there)) ∙ eqb-true _ _ same })
    (λ _ there. let f = found t xs thread there in record { place = suc f.place; within = omega arith; there = f.there; number = f.number })
    is

-- the thread of a row that a number names
pub thread_with_row : (o : Option Thread) (row : ThreadRow) → option_map_or (λ (thread : Thread). Some thread.row) o None ≡ Some row → (thread : Thread) × (o ≡ Some thread) × (thread.row ≡ row)
thread_with_row None row is = absurd (cc)
thread_with_row (Some thread) row is = (thread, refl, same_Some _ _ is)

pub row_of-thread : (state : State) (t : ℕ) (thread : Thread) → thread_of state t ≡ Some thread → row_of state t ≡ Some thread.row
row_of-thread state t thread is = ap (λ (o : Option Thread). option_map_or (λ (x : Thread). Some x.row) o None) is

pub frames_of-row : (state : State) (t : ℕ) (row : ThreadRow) → row_of state t ≡ Some row → frames_of state t ≡ row.frames
frames_of-row state t row is = grind (arith, thread_with_row)

pub domain_of-row : (state : State) (t : ℕ) (row : ThreadRow) → row_of state t ≡ Some row → domain_of state t ≡ last_slots row.frames
domain_of-row state t row is = grind (arith, thread_with_row)

pub thread-formed : (births : ℕ) (threads : List Thread) (t : ℕ) (thread : Thread) → AreThreads births threads → find (λ (x : Thread). eqb x.number t) threads ≡ Some thread → IsThread births thread
thread-formed births threads t thread are is =
    let f = found t threads thread is in
    subst (IsThread births) (f.there thread) (are.each f.place thread f.within)

pub row-formed : (state : State) (t : ℕ) (row : ThreadRow) → IsWellFormed state → row_of state t ≡ Some row → IsThreadRow row
row-formed state t row formed is =
    let w = thread_with_row (thread_of state t) row is in
    subst IsThreadRow w.2 (thread-formed state.counters.births state.threads t w.0 formed.threads w.1).row

-- the change keeps the row of the thread in its rules
abbrev pub KeepsRowOf : State → ℕ → (ThreadRow → ThreadRow) → Type 0
KeepsRowOf state t change = (row : ThreadRow) → row_of state t ≡ Some row → IsThreadRow row → KeepsRow row (change row)

module _ (state : State) (t : ℕ) (change : ThreadRow → ThreadRow) (formed : IsWellFormed state) (keeps : KeepsRowOf state t change) where
  changed-row : (k : ℕ) (d : Thread) → k < length state.threads → KeepsRow (get_or state.threads k d).row (changed t change (get_or state.threads k d)).row
  changed-row k d within =
      let x : Thread = get_or state.threads k d in
      let is : IsThread state.counters.births x = formed.threads.each k d within in
      cond_both (eqb x.number t) (record x { row = change x.row }) x (λ (y : Thread). KeepsRow x.row y.row)
      (λ same. keeps x.row (row_of-thread state t x (find_at_place t state.threads k d formed.threads.ordered within (eqb-true _ _ same))) is.row)
      (λ _. record { row = is.row; birth = refl; creator = refl })

  changed-thread : (k : ℕ) (d : Thread) → k < length state.threads → IsThread state.counters.births (changed t change (get_or state.threads k d))
  changed-thread k d within = grind (arith, changed-row, changed-number)

  changed_threads : AreThreads state.counters.births (map (changed t change) state.threads)
  changed_threads = record {
    each = All-map (IsThread state.counters.births) (changed t change) state.threads changed-thread;
    ordered = AllPairs-map IsBelow (changed t change) state.threads (λ i j d below within.
        let ni = changed-number t change (get_or state.threads i d) in
        let nj = changed-number t change (get_or state.threads j d) in
        rw (ni, nj) (formed.threads.ordered i j d below within));
    distinct = AllPairs-map (λ (x y : Thread). x.row.birth ≢ y.row.birth) (changed t change) state.threads (λ i j d below within.
        let inside : i < length state.threads = omega arith in
        let bi = (changed-row i d inside).birth in
        let bj = (changed-row j d within).birth in
        rw (bi, bj) (formed.threads.distinct i j d below within));
  }

  changed_first : (row : ThreadRow) × (row_of (with_thread state t change) 1 ≡ Some row) × IsFirst row
  changed_first =
      let w = thread_with_row (thread_of state 1) formed.first.0 formed.first.1 in
      let f = found 1 state.threads w.0 w.1 in
      let new : Thread = changed t change w.0 in
      let kept : KeepsRow w.0.row new.row = subst (λ (x : Thread). KeepsRow x.row (changed t change x).row) (f.there w.0) (changed-row f.place w.0 f.within) in
      let there : get_or (map (changed t change) state.threads) f.place new ≡ new = get_or-map (changed t change) state.threads f.place w.0 new f.within ∙ ap (changed t change) (f.there w.0) in
      let number : (get_or (map (changed t change) state.threads) f.place new).number ≡ 1 = ap (λ (x : Thread). x.number) there ∙ changed-number t change w.0 ∙ f.number in
      let is = find_at_place 1 (map (changed t change) state.threads) f.place new changed_threads.ordered (rw length-map f.within) number ∙ ap (λ (x : Thread). Some x) there in (
        new.row,
        row_of-thread (with_thread state t change) 1 new is,
        record {
          birth = kept.birth ∙ ap (λ (x : ThreadRow). x.birth) w.2 ∙ formed.first.2.birth;
          creator = kept.creator ∙ ap (λ (x : ThreadRow). x.creator) w.2 ∙ formed.first.2.creator;
        },
      )

pub with_thread-keeps : (state : State) (t : ℕ) (change : ThreadRow → ThreadRow) → IsWellFormed state → KeepsRowOf state t change → IsWellFormed (with_thread state t change)
with_thread-keeps state t change formed keeps = record {
  settings = formed.settings;
  counters = formed.counters;
  objects = formed.objects;
  accounts = formed.accounts;
  threads = changed_threads state t change formed keeps;
  first = changed_first state t change formed keeps;
}

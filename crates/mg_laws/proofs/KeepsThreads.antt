-- The calls that make, end and resume threads keep the state well formed.
use Rattle.mg_laws.proofs.{Keeps.unless_refused-keeps, KeepsDomains.{aligned_from, domain_of-formed}, KeepsRows.{IsBelow, found, thread-formed}}
use Rattle.{mg_laws.proofs.{KeepsRows.{thread_with_row, with_thread-keeps}, Passed.unrefused}, mg_model.specs.Abbreviations.{born, free_number}}
use Rattle.mg_model.specs.{Access.{allowed, domain_of, thread_of}, Domains.{row_of, with_thread}, KeptListLemmas.{AllPairs-head, AllPairs-nil}}
use Rattle.mg_model.specs.{KeptListLemmas.AllPairs-tail, ObjectCalls.is_aligned, Ranges.{IsThreadRow, IsWord}, State.{State, Thread, ThreadRow}}
use Rattle.mg_model.specs.Threads.{birth_of, end_thread, free_number_from, is_own, is_thread, make_thread, new_thread, resume, with_new_thread}
use Rattle.mg_model.specs.{WellFormed.{AreThreads, IsFirst, IsThread, IsWellFormed}, declared.rights.Right.TheVariants.X}
use Rattle.{mg_model.specs.declared.threads.ThrState.TheVariants.Ready, std.proofs.Common.{ℕ, ◌+◌, ◌-◌, ◌%◌, ◌^◌, ◌<◌, ◌≤◌, ◌≡◌, ◌≢◌, Bool, not}}
use Rattle.std.proofs.Common.{cond, eqb, leb, ltb, ◌||◌, List, [], ◌∷◌, length, filter, Option, Some, None, refl, sym, ap, ◌∙◌, subst, arith, All}
use Rattle.std.proofs.{Common.AllPairs, lemmas.Bool.{cond_both, cond-false, eqb-false, eqb-true, leb-false, ltb-false, ltb-true, ne_eqb, or_parts}}
use Rattle.std.proofs.lemmas.{Bool.not-false, List.Elements.{All-cons, All-filter, All-head, All-nil, All-replicate, All-tail, All-weaker}}
use Rattle.std.{proofs.lemmas.List.Kept.{AllPairs-cons, AllPairs-filter}, specs.{Option.option_map_or, Prelude.find}}

-- the lowest number from n on that no thread has
pub record IsFreeNumber (n : ℕ) (threads : List Thread) (number : ℕ) : Type 0 where
  pub low : n ≤ number
  pub high : number ≤ n + length threads
  pub free : All (λ (thread : Thread). thread.number ≢ number) threads

pub free_number_from-free : (n : ℕ) (threads : List Thread) → AllPairs IsBelow threads → All (λ (thread : Thread). n ≤ thread.number) threads → IsFreeNumber n threads (free_number_from n threads)
free_number_from-free n [] ordered above = record { low = omega arith; high = omega arith; free = All-nil (λ (thread : Thread). thread.number ≢ n) }
free_number_from-free n (x ∷ xs) ordered above =
    let later : All (IsBelow x) xs = AllPairs-head IsBelow x xs ordered in
    let first : n ≤ x.number = All-head (λ (thread : Thread). n ≤ thread.number) x xs above in
    cond_both (eqb x.number n) (free_number_from (n + 1) xs) n (IsFreeNumber n (x ∷ xs))
    (λ same.
    let is : x.number ≡ n = eqb-true _ _ same in
    let rest : IsFreeNumber (n + 1) xs (free_number_from (n + 1) xs) = free_number_from-free (n + 1) xs (AllPairs-tail IsBelow x xs ordered) (All-weaker (IsBelow x) (λ (thread : Thread). n + 1 ≤ thread.number) (λ thread below. omega arith) xs later) in
    record {
      low = omega arith;
      high = omega arith;
      free = All-cons (λ (thread : Thread). thread.number ≢ free_number_from (n + 1) xs) x xs (omega arith) rest.free;
    })
    (λ other.
    let not_it : x.number ≢ n = eqb-false _ _ other in
    record {
      low = omega arith;
      high = omega arith;
      free = All-cons (λ (thread : Thread). thread.number ≢ n) x xs not_it (All-weaker (IsBelow x) (λ (thread : Thread). thread.number ≢ n) (λ thread below. omega arith) xs later);
    })

pub free_number-free : (births : ℕ) (threads : List Thread) → AreThreads births threads → IsFreeNumber 1 threads (free_number threads)
free_number-free births threads are = free_number_from-free 1 threads are.ordered (λ k d within. (are.each k d within).some)

-- one thread more, in its place
All-with_new_thread : (P : Thread → Type 0) (new : Thread) (threads : List Thread) → P new → All P threads → All P (with_new_thread new threads)
All-with_new_thread P new [] this all = All-cons P new [] this all
All-with_new_thread P new (x ∷ xs) this all =
    grind (arith, (All-with_new_thread P new xs this (All-tail P x xs all)), cond_both, All-cons, All-head, All-tail)

ordered-with_new_thread : (new : Thread) (threads : List Thread) → AllPairs IsBelow threads → All (λ (thread : Thread). thread.number ≢ new.number) threads → AllPairs IsBelow (with_new_thread new threads)
ordered-with_new_thread new [] ordered free = AllPairs-cons IsBelow new [] (All-nil (IsBelow new)) (AllPairs-nil IsBelow)
ordered-with_new_thread new (x ∷ xs) ordered free =
    let later : All (IsBelow x) xs = AllPairs-head IsBelow x xs ordered in
    let other : x.number ≢ new.number = All-head (λ (thread : Thread). thread.number ≢ new.number) x xs free in
    cond_both (ltb new.number x.number) (new ∷ x ∷ xs) (x ∷ with_new_thread new xs) (AllPairs IsBelow)
    (λ is.
    let below : new.number < x.number = ltb-true _ _ is in
    AllPairs-cons IsBelow new (x ∷ xs) (All-cons (IsBelow new) x xs below (All-weaker (IsBelow x) (IsBelow new) (λ thread above. omega arith) xs later)) ordered)
    (λ is.
    let upto : x.number ≤ new.number = ltb-false _ _ is in
    let below : x.number < new.number = omega arith in
    AllPairs-cons IsBelow x (with_new_thread new xs) (All-with_new_thread (IsBelow x) new xs below later) (ordered-with_new_thread new xs (AllPairs-tail IsBelow x xs ordered) (All-tail (λ (thread : Thread). thread.number ≢ new.number) x xs free)))

abbrev pub HasOtherBirth : Thread → Thread → Type 0
HasOtherBirth x y = x.row.birth ≢ y.row.birth

distinct-with_new_thread : (new : Thread) (threads : List Thread) → AllPairs HasOtherBirth threads → All (λ (thread : Thread). thread.row.birth < new.row.birth) threads → AllPairs HasOtherBirth (with_new_thread new threads)
distinct-with_new_thread new [] distinct before = AllPairs-cons HasOtherBirth new [] (All-nil (HasOtherBirth new)) (AllPairs-nil HasOtherBirth)
distinct-with_new_thread new (x ∷ xs) distinct before =
    let older : x.row.birth < new.row.birth = All-head (λ (thread : Thread). thread.row.birth < new.row.birth) x xs before in
    cond_both (ltb new.number x.number) (new ∷ x ∷ xs) (x ∷ with_new_thread new xs) (AllPairs HasOtherBirth)
    (λ _. AllPairs-cons HasOtherBirth new (x ∷ xs) (All-weaker (λ (thread : Thread). thread.row.birth < new.row.birth) (HasOtherBirth new) (λ thread old. omega arith) (x ∷ xs) before) distinct)
    (λ _. AllPairs-cons HasOtherBirth x (with_new_thread new xs)
    (All-with_new_thread (HasOtherBirth x) new xs (omega arith) (AllPairs-head HasOtherBirth x xs distinct))
    (distinct-with_new_thread new xs (AllPairs-tail HasOtherBirth x xs distinct) (All-tail (λ (thread : Thread). thread.row.birth < new.row.birth) x xs before)))

-- a search for another number finds the same thread as before
pub find-with_new_thread : (t : ℕ) (new : Thread) (threads : List Thread) → new.number ≢ t →
    find (λ (thread : Thread). eqb thread.number t) (with_new_thread new threads) ≡ find (λ (thread : Thread). eqb thread.number t) threads
find-with_new_thread t new [] other = cond-false _ _ _ (ne_eqb _ _ other)
find-with_new_thread t new (x ∷ xs) other = grind (arith, (find-with_new_thread t new xs other))

birth_of_thread : (state : State) (t : ℕ) (o : Option Thread) → IsWellFormed state → thread_of state t ≡ o → option_map_or (λ (thread : Thread). thread.row.birth) o 0 ≤ state.counters.births
birth_of_thread state t None formed is = omega arith
birth_of_thread state t (Some thread) formed is = (thread-formed state.counters.births state.threads t thread formed.threads is).born

pub birth_of-born : (state : State) (t : ℕ) → IsWellFormed state → birth_of state t ≤ state.counters.births
birth_of-born state t formed = birth_of_thread state t (thread_of state t) formed refl

module _ (state : State) (t pc : ℕ) (formed : IsWellFormed state) (word : IsWord pc) (aligned : pc % 8 ≡ 0) (few : length state.threads < 256) (left : state.counters.births < 2 ^ 32 - 1) where
  made : Thread
  made = new_thread (free_number state.threads) (state.counters.births + 1) (birth_of state t) pc (domain_of state t)

  made_row : IsThreadRow made.row
  unfolding made
  made_row = grind (arith, domain_of-formed, birth_of-born, All-replicate, All-cons, All-nil)

  made_threads : AreThreads (state.counters.births + 1) (with_new_thread made state.threads)
  unfolding made
  made_threads =
      let number : IsFreeNumber 1 state.threads (free_number state.threads) = free_number-free state.counters.births state.threads formed.threads in
      record {
        each = All-with_new_thread (IsThread (state.counters.births + 1)) made state.threads
            (record { some = number.low; few = omega arith; row = made_row; born = omega arith })
            (λ k d within. let is = formed.threads.each k d within in record { some = is.some; few = is.few; row = is.row; born = omega arith });
        ordered = ordered-with_new_thread made state.threads formed.threads.ordered number.free;
        distinct = distinct-with_new_thread made state.threads formed.threads.distinct (λ k d within. let is = formed.threads.each k d within in omega arith);
      }

  made_first : (row : ThreadRow) × (row_of (record (born state) { threads = with_new_thread made state.threads }) 1 ≡ Some row) × IsFirst row
  unfolding made
  made_first =
      let number : IsFreeNumber 1 state.threads (free_number state.threads) = free_number-free state.counters.births state.threads formed.threads in
      let w = thread_with_row (thread_of state 1) formed.first.0 formed.first.1 in
      let f = found 1 state.threads w.0 w.1 in
      let other : free_number state.threads ≢ 1 = λ same. subst (λ (x : Thread). x.number ≢ free_number state.threads) (f.there w.0) (number.free f.place w.0 f.within) (f.number ∙ sym same) in
      (formed.first.0, ap (λ (o : Option Thread). option_map_or (λ (x : Thread). Some x.row) o None) (find-with_new_thread 1 made state.threads other) ∙ formed.first.1, formed.first.2)

  made-keeps : IsWellFormed (record (born state) { threads = with_new_thread made state.threads })
  unfolding made
  made-keeps = grind (arith, made_threads, made_first)

pub make_thread-keeps : (state : State) (t pc : ℕ) → IsWellFormed state → IsWord pc → IsWellFormed (make_thread state t pc).0
unfolding made
make_thread-keeps state t pc formed word =
    unless_refused-keeps _ state _ formed (λ none.
    let to_denied = unrefused (not (is_aligned pc)) _ _ none in
    let to_limit = unrefused (not (allowed state t pc X)) _ _ to_denied.1 in
    let to_end = unrefused (leb 256 (length state.threads) || leb (2 ^ 32 - 1) state.counters.births) _ _ to_limit.1 in
    let limits = or_parts _ _ to_end.0 in
    made-keeps state t pc formed word (aligned_from pc to_denied.0) (leb-false _ _ limits.0) (leb-false _ _ limits.1))

-- one thread less
pub find-without : (i t : ℕ) (threads : List Thread) → i ≢ t →
    find (λ (thread : Thread). eqb thread.number t) (filter (λ (thread : Thread). not (eqb thread.number i)) threads) ≡ find (λ (thread : Thread). eqb thread.number t) threads
find-without i t [] other = refl
find-without i t (x ∷ xs) other =
    let rest = find-without i t xs other in
    cond_both (not (eqb x.number i)) (x ∷ filter (λ (thread : Thread). not (eqb thread.number i)) xs) (filter (λ (thread : Thread). not (eqb thread.number i)) xs)
    (λ (ys : List Thread). find (λ (thread : Thread). eqb thread.number t) ys ≡ find (λ (thread : Thread). eqb thread.number t) (x ∷ xs))
    (λ _. ap (λ (o : Option Thread). cond (eqb x.number t) (Some x) o) rest)
    (λ it.
    let is : x.number ≡ i = eqb-true _ _ (not-false _ it) in
    rest ∙ sym (cond-false (eqb x.number t) (Some x) (find (λ (thread : Thread). eqb thread.number t) xs) (ne_eqb _ _ (λ same. other (sym is ∙ same)))))

ended-keeps : (state : State) (i : ℕ) → IsWellFormed state → i ≢ 1 → IsWellFormed (record state { threads = filter (λ (thread : Thread). not (eqb thread.number i)) state.threads })
ended-keeps state i formed other =
    let stays : Thread → Bool = λ (thread : Thread). not (eqb thread.number i) in
    record {
      settings = formed.settings;
      counters = formed.counters;
      objects = formed.objects;
      accounts = formed.accounts;
      threads = record {
        each = All-filter stays (IsThread state.counters.births) state.threads formed.threads.each;
        ordered = AllPairs-filter IsBelow stays state.threads formed.threads.ordered;
        distinct = AllPairs-filter HasOtherBirth stays state.threads formed.threads.distinct;
      };
      first = (formed.first.0, ap (λ (o : Option Thread). option_map_or (λ (x : Thread). Some x.row) o None) (find-without i 1 state.threads other) ∙ formed.first.1, formed.first.2);
    }

pub end_thread-keeps : (state : State) (t i : ℕ) → IsWellFormed state → IsWellFormed (end_thread state t i).0
end_thread-keeps state t i formed =
    unless_refused-keeps _ state _ formed (λ none.
    let to_own = unrefused (not (is_thread state i)) _ _ none in
    let to_end = unrefused (eqb i 1 || not (is_own state t i)) _ _ to_own.1 in
    ended-keeps state i formed (eqb-false _ _ (or_parts _ _ to_end.0).0))

resumed-keeps : (state : State) (i : ℕ) → IsWellFormed state → IsWellFormed (with_thread state i (λ thread. record thread { state = Ready }))
resumed-keeps state i formed =
    with_thread-keeps state i (λ thread. record thread { state = Ready }) formed (λ row _ is. record {
      row = grind arith;
      birth = refl;
      creator = refl;
    })

pub resume-keeps : (state : State) (t i : ℕ) → IsWellFormed state → IsWellFormed (resume state t i).0
resume-keeps state t i formed = unless_refused-keeps _ state _ formed (λ _. resumed-keeps state i formed)

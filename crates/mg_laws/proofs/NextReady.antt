-- The thread that `next` runs is the least Ready one above the cursor, or else the least Ready one.
use Rattle.{mg_laws.{proofs.KeepsRows.IsBelow, specs.Laws.{RanNext, RunsNextReady}}, mg_model.specs.{Access.thread_of, KeptListLemmas.AllPairs-head}}
use Rattle.mg_model.specs.{KeptListLemmas.AllPairs-tail, State.{State, Thread, ThreadRow}, Turn.{is_ready, next, ready_above, run_next}}
use Rattle.{mg_model.specs.{Turn.thread_is_ready, WellFormed.IsWellFormed}, std.proofs.Common.{ℕ, ◌<◌, ◌≤◌, ◌≡◌, ◌≢◌, ◌&&◌, Bool, true, false, eqb}}
use Rattle.std.proofs.{Common.{ltb, List, [], ◌∷◌, Option, Some, None, refl, sym, ap, ◌∙◌, subst, arith, All, AllPairs}, lemmas.Bool.and_parts}
use Rattle.std.proofs.lemmas.Bool.{and_from, cond_both, cond-false, cond-true, eq-eqb, eqb-true, false≢true, ltb-false, ltb-true, ne_eqb}
use Rattle.std.{proofs.lemmas.List.Elements.{All-head, All-tail}, specs.{Option.{option_map_or, option_or}, Prelude.find}}

abbrev ready_of : Option Thread → Bool
ready_of found = option_map_or (λ (thread : Thread). is_ready thread.row.state) found false

abbrev ready_in : List Thread → ℕ → Bool
ready_in threads n = ready_of (find (λ (thread : Thread). eqb thread.number n) threads)

same_ready : (found : Option Thread) → option_map_or (λ (row : ThreadRow). is_ready row.state) (option_map_or (λ (thread : Thread). Some thread.row) found None) false ≡ ready_of found
same_ready None = refl
same_ready (Some thread) = refl

ready_is : (state : State) (n : ℕ) → thread_is_ready state n ≡ ready_in state.threads n
ready_is state n = same_ready (thread_of state n)

-- what holds for all numbers holds for the number of a Ready thread
ready-holds : (P : ℕ → Type 0) (threads : List Thread) (n : ℕ) → All (λ (thread : Thread). P thread.number) threads → ready_in threads n ≡ true → P n
ready-holds P [] n all ready = absurd (false≢true ready)
ready-holds P (x ∷ xs) n all ready =
    cond_both (eqb x.number n) (Some x) (find (λ (thread : Thread). eqb thread.number n) xs) (λ o. ready_of o ≡ true → P n)
    (λ same _. subst P (eqb-true _ _ same) (All-head (λ (thread : Thread). P thread.number) x xs all))
    (λ _ rest. ready-holds P xs n (All-tail (λ (thread : Thread). P thread.number) x xs all) rest)
    ready

-- a Ready thread among these is the first of them or one of the others
ready-cases : (x : Thread) (xs : List Thread) (n : ℕ) (P : Type 0) → ((x.number ≡ n) → is_ready x.row.state ≡ true → P) → (ready_in xs n ≡ true → P) → ready_in (x ∷ xs) n ≡ true → P
ready-cases x xs n P first others ready = grind (arith, cond_both, eqb-true)

-- the result of a search above a number: the least that is Ready there, or there is none
record IsLeastReady (threads : List Thread) (c number : ℕ) : Type 0 where
  ready : ready_in threads number ≡ true
  above : c < number
  least : (n : ℕ) → ready_in threads n ≡ true → c < n → number ≤ n

abbrev Found : List Thread → ℕ → Option Thread → Type 0
Found threads c None = (n : ℕ) → ready_in threads n ≡ true → n ≤ c
Found threads c (Some x) = IsLeastReady threads c x.number

here : (c : ℕ) (x : Thread) (xs : List Thread) → AllPairs IsBelow (x ∷ xs) → (is_ready x.row.state && ltb c x.number) ≡ true → IsLeastReady (x ∷ xs) c x.number
here c x xs ordered pass =
    let parts = and_parts (is_ready x.row.state) (ltb c x.number) pass in
    let later : All (IsBelow x) xs = AllPairs-head IsBelow x xs ordered in
    record {
      ready = ap ready_of (cond-true _ _ _ (eq-eqb x.number x.number refl)) ∙ parts.0;
      above = ltb-true _ _ parts.1;
      least = λ n ready _. ready-cases x xs n (x.number ≤ n) (λ same _. omega arith) (λ rest. let b : x.number < n = ready-holds (λ m. x.number < m) xs n later rest in omega arith) ready;
    }

not_here : (c : ℕ) (x : Thread) (n : ℕ) → (is_ready x.row.state && ltb c x.number) ≡ false → x.number ≡ n → is_ready x.row.state ≡ true → n ≤ c
not_here c x n fails same ready = grind (arith, cond_both, and_from, ltb-false)

behind : (c : ℕ) (x : Thread) (xs : List Thread) (found : Option Thread) → AllPairs IsBelow (x ∷ xs) → (is_ready x.row.state && ltb c x.number) ≡ false → Found xs c found → Found (x ∷ xs) c found
behind c x xs None ordered fails none = λ n ready. ready-cases x xs n (n ≤ c) (λ same is. not_here c x n fails same is) (λ rest. none n rest) ready
behind c x xs (Some y) ordered fails is =
    let later : All (IsBelow x) xs = AllPairs-head IsBelow x xs ordered in
    let below : x.number < y.number = ready-holds (λ m. x.number < m) xs y.number later is.ready in
    let other : x.number ≢ y.number = omega arith in
    record {
      ready = ap ready_of (cond-false _ _ _ (ne_eqb _ _ other)) ∙ is.ready;
      above = is.above;
      least = λ n ready above. ready-cases x xs n (y.number ≤ n) (λ same there. let le : n ≤ c = not_here c x n fails same there in absurd (omega arith)) (λ rest. is.least n rest above) ready;
    }

ready_above-found : (c : ℕ) (threads : List Thread) → AllPairs IsBelow threads → Found threads c (ready_above c threads)
ready_above-found c [] ordered = λ n ready. absurd (false≢true ready)
ready_above-found c (x ∷ xs) ordered =
    grind (arith, (ready_above-found c xs (AllPairs-tail IsBelow x xs ordered)), cond_both, here, behind, AllPairs-tail)

module _ (state : State) (formed : IsWellFormed state) where
  told : (n : ℕ) → thread_is_ready state n ≡ true → ready_in state.threads n ≡ true
  told n ready = sym (ready_is state n) ∙ ready

  positive : (n : ℕ) → ready_in state.threads n ≡ true → 1 ≤ n
  positive n ready = ready-holds (λ m. 1 ≤ m) state.threads n (λ k d within. (formed.threads.each k d within).some) ready

  ran : (first second : Option Thread) → Found state.threads state.counters.cursor first → Found state.threads 0 second → RanNext state (run_next state (option_or first second)).1
  ran (Some x) second is _ = grind (arith, ready_is, told)
  ran None (Some x) none is = grind (arith, ready_is, told, positive)
  ran None None _ none = (refl, λ n ready. let le = none n (told n ready) in let p = positive n (told n ready) in absurd (omega arith))

pub next-ready : RunsNextReady next
next-ready state formed = grind (arith, ran, ready_above-found)

-- The number of a new thread: no thread has it, and each lower one is some thread's.
use Rattle.{mg_laws.{proofs.KeepsThreads.free_number-free, specs.Laws.TakesLeastNumber}, mg_model.specs.{Abbreviations.free_number, State.Thread}}
use Rattle.{mg_model.specs.Threads.free_number_from, std.proofs.Common.{ℕ, ◌+◌, ◌≤◌, ◌≡◌, ◌≢◌, eqb, List, [], ◌∷◌, Some, None, refl, arith, All}}
use Rattle.std.{proofs.lemmas.{Bool.{cond_both, eqb-false, eqb-true}, List.Elements.{All-cons, All-head, All-nil, All-tail}}, specs.Prelude.find}

-- the thread has another number
abbrev Differs : ℕ → Thread → Type 0
Differs t thread = thread.number ≢ t

differ-none : (t : ℕ) (threads : List Thread) → All (Differs t) threads → find (λ (thread : Thread). eqb thread.number t) threads ≡ None
differ-none t [] all = refl
differ-none t (x ∷ xs) all = grind (arith, (differ-none t xs (All-tail (Differs t) x xs all)), cond_both, All-head, eqb-true, All-tail)

none-differ : (t : ℕ) (threads : List Thread) → find (λ (thread : Thread). eqb thread.number t) threads ≡ None → All (Differs t) threads
none-differ t [] none = All-nil (Differs t)
none-differ t (x ∷ xs) none =
    cond_both (eqb x.number t) (Some x) (find (λ (thread : Thread). eqb thread.number t) xs) (λ o. o ≡ None → All (Differs t) (x ∷ xs))
    (λ _ is. absurd (cc))
    (λ other rest. All-cons (Differs t) x xs (eqb-false _ _ other) (none-differ t xs rest))
    none

number-least : (n other : ℕ) (threads : List Thread) → n ≤ other → All (Differs other) threads → free_number_from n threads ≤ other
number-least n other [] from free = from
number-least n other (x ∷ xs) from free =
    let differs : x.number ≢ other = All-head (Differs other) x xs free in
    cond_both (eqb x.number n) (free_number_from (n + 1) xs) n (λ m. m ≤ other)
    (λ same. let is : x.number ≡ n = eqb-true _ _ same in number-least (n + 1) other xs (omega arith) (All-tail (Differs other) x xs free))
    (λ _. from)

pub free_number-least : TakesLeastNumber free_number
free_number-least state formed =
    let free = free_number-free state.counters.births state.threads formed.threads in
    record {
      some = free.low;
      free = differ-none (free_number state.threads) state.threads free.free;
      least = λ other some none. number-least 1 other state.threads some (none-differ other state.threads none);
    }

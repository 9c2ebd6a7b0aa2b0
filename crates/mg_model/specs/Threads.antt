-- The calls that make, end and resume threads.
use Rattle.std.specs.{Option.option_map_or, Prelude.{ℕ, ◌+◌, ◌==◌, ◌||◌, nat_le, nat_lt, Bool, not, List, [], ◌∷◌}}
use Rattle.std.specs.Prelude.{if◌then◌else◌, filter, length, replicate, is_some}
use Rattle.mg_model.specs.{Access.{allowed, domain_of, thread_of}, Domains.with_thread, ObjectCalls.is_aligned}
use Rattle.mg_model.specs.{Refused.{Answer, checked}, State.{State, Thread}}
use Rattle.mg_model.specs.declared.limits.TheConstants.{BIRTH_LIMIT as birth_limit, THREAD_LIMIT as thread_limit}
use Rattle.mg_model.specs.declared.replies.Refusal.TheVariants.{Align, Denied, Limit, NoThread, NotYours}
use Rattle.mg_model.specs.declared.{replies.Reply.TheVariants.{Done, Count}, rights.Right.TheVariants.X}
use Rattle.mg_model.specs.declared.{slots.Slot.Slot, threads.ThrState.TheVariants.Ready}

abbrev pub is_thread : State → ℕ → Bool
is_thread state t = is_some (thread_of state t)

-- The least number from this one on that no thread has. The threads are in the order of their numbers. That it is the least
-- is the law `free_numbers_are_least`.
abbrev pub free_number_from : ℕ → List Thread → ℕ
free_number_from n [] = n
free_number_from n (thread ∷ threads) = if thread.number == n then free_number_from (n + 1) threads else n

-- the threads with one more, in its place in the order of the numbers
abbrev pub with_new_thread : Thread → List Thread → List Thread
with_new_thread new [] = new ∷ []
with_new_thread new (thread ∷ threads) =
    if nat_lt new.number thread.number then new ∷ thread ∷ threads else thread ∷ with_new_thread new threads

abbrev pub birth_of : State → ℕ → ℕ
birth_of state t = option_map_or (λ (thread : Thread). thread.row.birth) (thread_of state t) 0

abbrev pub creator_of : State → ℕ → ℕ
creator_of state t = option_map_or (λ (thread : Thread). thread.row.creator) (thread_of state t) 0

-- a new thread: Ready at its pc, with registers 0 and one frame
abbrev pub new_thread : ℕ → ℕ → ℕ → ℕ → List Slot → Thread
new_thread number birth creator pc slots = record {
  number = number;
  row = record {
    birth = birth;
    creator = creator;
    pc = pc;
    state = Ready;
    regs = replicate 8 0;
    frames = record { back = 0; slots = slots } ∷ [];
  };
}

-- `thread PC`
abbrev pub make_thread : State → ℕ → ℕ → Answer
make_thread state t pc =
    let number = free_number_from 1 state.threads in
    checked state (
    (not (is_aligned pc), Align)
    ∷ (not (allowed state t pc X), Denied)
    ∷ (nat_le thread_limit (length state.threads) || nat_le birth_limit state.counters.births, Limit)
    ∷ []) (
      record state {
        counters = record state.counters { births = state.counters.births + 1 };
        threads = with_new_thread
            (new_thread number (state.counters.births + 1) (birth_of state t) pc (domain_of state t)) state.threads;
      },
      Count number,
    )

-- Whether thread i is t itself or was created by t. Numbers are used again and births are not, so births decide. No thread
-- created thread 1: its creator's birth number is 0, which no thread has.
abbrev pub is_own : State → ℕ → ℕ → Bool
is_own state t i = i == t || creator_of state i == birth_of state t

-- `end I`
abbrev pub end_thread : State → ℕ → ℕ → Answer
end_thread state t i =
    checked state ((not (is_thread state i), NoThread) ∷ (i == 1 || not (is_own state t i), NotYours) ∷ [])
    (record state { threads = filter (λ (thread : Thread). not (thread.number == i)) state.threads }, Done)

-- `resume I`
abbrev pub resume : State → ℕ → ℕ → Answer
resume state t i =
    checked state ((not (is_thread state i), NoThread) ∷ (not (is_own state t i), NotYours) ∷ [])
    (with_thread state i (λ thread. record thread { state = Ready }), Done)

-- Whose a thread is, by the threads that are held.
use Rattle.std.specs.{Option.option_map_or, Prelude.{ℕ, ◌==◌, ◌||◌, Bool, not, List, [], ◌∷◌, find, is_some, Option}}
use Rattle.mg_model.specs.{Refused.first_refusal, State.Thread, declared.replies.Refusal.Refusal}
use Rattle.mg_model.specs.declared.replies.Refusal.TheVariants.{NoThread, NotYours}

abbrev pub thread_among : List Thread → ℕ → Option Thread
thread_among threads i = find (λ (thread : Thread). thread.number == i) threads

-- the birth of a thread, and its creator's; 0 if there is no such thread
abbrev pub birth_among : List Thread → ℕ → ℕ
birth_among threads i = option_map_or (λ (thread : Thread). thread.row.birth) (thread_among threads i) 0

abbrev pub creator_among : List Thread → ℕ → ℕ
creator_among threads i = option_map_or (λ (thread : Thread). thread.row.creator) (thread_among threads i) 0

-- whether thread i is t itself or created by t
abbrev pub is_own_among : List Thread → ℕ → ℕ → Bool
is_own_among threads t i = i == t || creator_among threads i == birth_among threads t

-- why it is not for t to end or to resume
abbrev pub own_refusal : List Thread → ℕ → ℕ → Option Refusal
own_refusal threads t i = first_refusal ((not (is_some (thread_among threads i)), NoThread) ∷ (not (is_own_among threads t i), NotYours) ∷ [])

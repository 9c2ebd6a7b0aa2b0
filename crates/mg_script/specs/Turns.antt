-- A thread's turn as a call of the machine, and then another row for the thread.
use Rattle.std.specs.Prelude.{ℕ, ◌≡◌, if◌then◌else◌, Option, Some, None}
use Rattle.mg_model.specs.{Abbreviations.advanced, Access.allowed, Backed.{KeepsBacked, by_none}, Domains.row_of}
use Rattle.mg_model.specs.{Domains.with_thread, Objects.word_at, State.{State, ThreadRow}, Turn.thread_call}
use Rattle.mg_model.specs.{Turn.turn_state, WellFormed.IsWellFormed, declared.calls.Call.Call}
use Rattle.mg_model.specs.declared.{rights.Right.TheVariants.X, threads.ThrState.TheVariants.Ready}
use Rattle.mg_script.specs.Effects.{HasFrames, IsSpelledBy, begun, finished, made_by, resumed, turned_on}
use Rattle.mg_script.specs.declared.effects.Effect.{Effect}

-- the word that a thread may fetch at its pc
abbrev pub fetched_word : State → ℕ → ThreadRow → Option ℕ
fetched_word state t thread = if allowed state t thread.pc X then Some (word_at state.objects thread.pc) else None

-- the call of a thread's turn
abbrev pub turn_call : State → ℕ → ThreadRow → Call
turn_call state t thread = begun thread (fetched_word state t thread)

-- This is the effect of the thread's turn: how the turn continues with it, and that it makes the call of the turn.
pub record IsAsked (state : State) (t : ℕ) (thread : ThreadRow) (asked : Effect) : Type 0 where
  pub turn : turned_on state t thread (fetched_word state t thread) ≡ finished state t (advanced thread) asked
  pub call : made_by thread asked ≡ turn_call state t thread
  pub spelled : IsSpelledBy asked (turn_call state t thread)
  pub frames : HasFrames thread asked

-- A turn is a call, and then another row for the thread, made from the row after the call.
abbrev pub TurnsAreCalls : Type 0
TurnsAreCalls =
    (state : State) (t : ℕ) (thread : ThreadRow) (asked : Effect) → IsWellFormed state → row_of state t ≡ Some thread → thread.state ≡ Ready → IsAsked state t thread asked →
    let called = thread_call state t (turn_call state t thread) in
    turn_state state t ≡ with_thread called.0 t (λ row. resumed asked called.1 row)

-- The row that a thread gets after the call of its turn has the slots of the row after the call in its present frame: each
-- seat that is backed after the call stays backed.
abbrev pub TurnsRowsKeepBacked : Type 0
TurnsRowsKeepBacked =
    (state : State) (t : ℕ) (thread : ThreadRow) (asked : Effect) → IsWellFormed state → row_of state t ≡ Some thread → thread.state ≡ Ready → IsAsked state t thread asked →
    let called = thread_call state t (turn_call state t thread) in
    KeepsBacked by_none called.0 (with_thread called.0 t (λ row. resumed asked called.1 row))

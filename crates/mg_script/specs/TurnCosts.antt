-- What a turn reads and costs: the fetch, and then what its call reads and costs.
use Rattle.std.specs.Prelude.{ℕ, ◌≡◌, ◌+◌, ◌&&◌, true, false, ◌∷◌, if◌then◌else◌, Some}
use Rattle.mg_model.specs.{Access.allowed, Accesses.{call_accesses, call_words, turn_accesses, turn_words}, State.State}
use Rattle.mg_model.specs.{State.ThreadRow, Turn.thread_call, Warmth.{disturbs, is_calm_turn, is_ok}}
use Rattle.{mg_model.specs.declared.rights.Right.TheVariants.X, mg_script.specs.Turns.turn_call}

-- A turn's accesses are the fetch, and then those of its call. Its words are the fetched one and those of its call. If it is
-- calm, its call disturbs nothing.
pub record IsSearchedAsCall (state : State) (t : ℕ) (thread : ThreadRow) : Type 0 where
  pub accesses : turn_accesses state (record { number = t; row = thread }) ≡ record { thread = t; address = thread.pc; right = X } ∷ call_accesses state t (turn_call state t thread)
  pub words : turn_words state (record { number = t; row = thread }) ≡ (if allowed state t thread.pc X then 1 else 0) + call_words state t (turn_call state t thread)
  pub calm : is_calm_turn state (Some (record { number = t; row = thread })) ≡ true → (is_ok (thread_call state t (turn_call state t thread)).1 && disturbs state t (turn_call state t thread)) ≡ false

-- this holds of every thread, in every state
abbrev pub TurnsSearchAsCalls : Type 0
TurnsSearchAsCalls = (state : State) (t : ℕ) (thread : ThreadRow) → IsSearchedAsCall state t thread

-- What the text of a state tells, as a statement on a text.
use Rattle.std.specs.Prelude.{◌≡◌, ℕ, List}
use Rattle.mg_model.specs.{State.State, WellFormed.IsWellFormed}

-- no two well-formed states have one text
abbrev pub TellsState : (State → List ℕ) → Type 0
TellsState text = (one other : State) → IsWellFormed one → IsWellFormed other → text one ≡ text other → one ≡ other

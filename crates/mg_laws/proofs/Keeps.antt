-- What a row of the table of calls keeps: a refused call leaves the state, so a fact that its effect keeps is kept.
use Rattle.mg_model.specs.{Abbreviations.unless_refused, Refused.Answer, State.State, WellFormed.IsWellFormed, declared.replies.Refusal.Refusal}
use Rattle.std.specs.Prelude.{◌≡◌, Option, Some, None, refl}

-- if the effect keeps the state well formed when no refusal holds, the row keeps it well formed
pub unless_refused-keeps : (refused : Option Refusal) (state : State) (done : Answer) → IsWellFormed state → (refused ≡ None → IsWellFormed done.0) → IsWellFormed (unless_refused refused state done).0
unless_refused-keeps None state done formed keeps = keeps refl
unless_refused-keeps (Some word) state done formed keeps = formed

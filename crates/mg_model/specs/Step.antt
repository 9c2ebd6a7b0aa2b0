-- One line is one step.
use Rattle.std.specs.Prelude.{List, [], ◌∷◌, ℕ, if◌then◌else◌}
use Rattle.mg_model.specs.{BankCalls.rent, Refused.Answer, State.State, Threads.is_thread, Turn.{next, thread_call}}
use Rattle.mg_model.specs.{Turn.turn, declared.{calls.{Call.Call, Line.Line}, replies.Reply.TheVariants.No}}
use Rattle.mg_model.specs.declared.calls.Call.TheVariants as call
use Rattle.mg_model.specs.declared.replies.Refusal.TheVariants as refusal

-- a call that names its thread is refused if no such thread lives
abbrev pub of_thread : State → ℕ → Answer → Answer
of_thread state t done = if is_thread state t then done else (state, No refusal.NoThread)

-- the state and the reply after a call; only the calls of a thread look at the number
abbrev pub step_of : State → ℕ → Call → Answer
step_of state t call.Bad = (state, No refusal.Syntax)
step_of state t call.Rent = rent state
step_of state t call.Next = next state
step_of state t call.Turn = of_thread state t (turn state t)
step_of state t other = of_thread state t (thread_call state t other)

-- the state and the reply after a line
abbrev pub step : State → Line → Answer
step state line = step_of state line.thread line.call

-- the state after these lines
abbrev pub after : State → List Line → State
after state [] = state
after state (line ∷ more) = after (step state line).0 more

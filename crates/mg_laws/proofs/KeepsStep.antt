-- A step from a well-formed state by a line in range gives a well-formed state, and so do all the lines of an input.
use Rattle.{mg_laws.proofs.{KeepsBank.rent-keeps, KeepsTurn.{next-keeps, thread_call-keeps, turn-keeps}}, mg_model.specs.Refused.Answer}
use Rattle.mg_model.specs.{State.State, Step.{after, of_thread, step, step_of}, Threads.is_thread, WellFormed.{HasRanges, IsInRange, IsWellFormed}}
use Rattle.{mg_model.specs.{WellFormed.KeepsWellFormed, declared.{calls.{Call.Call, Line.Line}, replies.Reply.TheVariants.No}}, std.proofs.Common.ℕ}
use Rattle.std.proofs.{Common.{List, [], ◌∷◌, All}, lemmas.{Bool.cond_both, List.Elements.{All-head, All-tail}}}
use Rattle.mg_model.specs.declared.calls.Call.TheVariants as call
use Rattle.mg_model.specs.declared.replies.Refusal.TheVariants as refusal

of_thread-keeps : (state : State) (t : ℕ) (done : Answer) → IsWellFormed state → IsWellFormed done.0 → IsWellFormed (of_thread state t done).0
of_thread-keeps state t done formed after = cond_both (is_thread state t) done (state, No refusal.NoThread) (λ (answer : Answer). IsWellFormed answer.0) (λ _. after) (λ _. formed)

step_of-keeps : (state : State) (t : ℕ) (made : Call) → IsWellFormed state → HasRanges made → IsWellFormed (step_of state t made).0
step_of-keeps state t call.Bad formed ranges = formed
step_of-keeps state t call.Rent formed ranges = rent-keeps state formed
step_of-keeps state t call.Next formed ranges = next-keeps state formed
step_of-keeps state t call.Turn formed ranges = of_thread-keeps state t _ formed (turn-keeps state t formed)
step_of-keeps state t other formed ranges = of_thread-keeps state t _ formed (thread_call-keeps state t other formed ranges)

pub step-keeps : KeepsWellFormed (λ state line. (step state line).0)
step-keeps state line formed in_range = step_of-keeps state line.thread line.call formed in_range.call

pub after-keeps : (state : State) (lines : List Line) → IsWellFormed state → All IsInRange lines → IsWellFormed (after state lines)
after-keeps state [] formed all = formed
after-keeps state (line ∷ more) formed all = after-keeps (step state line).0 more (step-keeps state line formed (All-head IsInRange line more all)) (All-tail IsInRange line more all)

-- A line that is refused leaves the state as it was.
use Rattle.{mg_laws.specs.Laws.RefusedLeaves, mg_model.specs.{Abbreviations.{free_number, unless_refused}, Access.domain_of, Bank.balance_of}}
use Rattle.mg_model.specs.{Bank.{owed_by, pages_of, rate_now, rent_paid}, Domains.frames_of, ObjectCalls.{about, next_password, row_at}}
use Rattle.mg_model.specs.{Objects.{lowest_free, word_at}, Refused.Answer, State.{State, Thread}, Step.{of_thread, step, step_of}, Turn.outcome_of}
use Rattle.mg_model.specs.{Turn.{picked, run_next, thread_call, turn, turn_state}, declared.{calls.Call.Call, replies.{Refusal.Refusal, Reply.Reply}}}
use Rattle.{mg_model.specs.declared.threads.After.After, std.proofs.Common.{arith, ℕ, ◌+◌, ◌-◌, ◌*◌, ◌≡◌, length, Option, Some, None, refl}}
use Rattle.std.proofs.lemmas.Bool.{cond_both}
use Rattle.mg_model.specs.declared.calls.Call.TheVariants as call
use Rattle.mg_model.specs.declared.replies.Refusal.TheVariants as refusal
use Rattle.mg_model.specs.declared.replies.Reply.TheVariants as reply

-- an answer that is no refusal
pub record IsOk (answer : Reply) : Type 0 where
  pub ok : (word : Refusal) → answer ≡ reply.No word → ⊥

-- if the answer is a refusal, the new state is the old one
record Leaves (state new : State) (answer : Reply) : Type 0 where
  leaves : (word : Refusal) → answer ≡ reply.No word → new ≡ state

row-leaves : (refused : Option Refusal) (state : State) (done : Answer) → IsOk done.1 → Leaves state (unless_refused refused state done).0 (unless_refused refused state done).1
row-leaves None state done is = record { leaves = λ word no. absurd (is.ok word no) }
row-leaves (Some refused) state done is = record { leaves = λ word no. refl }

same-leaves : (state : State) (answer : Reply) → Leaves state state answer
same-leaves state answer = record { leaves = λ word no. refl }

pub done-ok : IsOk reply.Done
done-ok = record { ok = λ word no. cc }

pub value-ok : (w : ℕ) → IsOk (reply.Value w)
value-ok w = record { ok = λ word no. cc }

pub count-ok : (n : ℕ) → IsOk (reply.Count n)
count-ok n = record { ok = λ word no. cc }

pub made-ok : (base password : ℕ) → IsOk (reply.Made base password)
made-ok base password = record { ok = λ word no. cc }

pub opened-ok : (number password : ℕ) → IsOk (reply.Opened number password)
opened-ok number password = record { ok = λ word no. cc }

about-ok : (base pages account passwords entries extension : ℕ) → IsOk (reply.About base pages account passwords entries extension)
about-ok base pages account passwords entries extension = record { ok = λ word no. cc }

pub funds-ok : (balance owed pages : ℕ) → IsOk (reply.Funds balance owed pages)
funds-ok balance owed pages = record { ok = λ word no. cc }

pub info-ok : (state : State) (b : ℕ) → IsOk (about (row_at state b))
info-ok state b = about-ok _ _ _ _ _ _

thread_call-leaves : (state : State) (t : ℕ) (made : Call) → Leaves state (thread_call state t made).0 (thread_call state t made).1
thread_call-leaves state t (call.Load a) = row-leaves _ state _ (value-ok (word_at state.objects a))
thread_call-leaves state t (call.Store a value) = row-leaves _ state _ done-ok
thread_call-leaves state t (call.Create n account password) = row-leaves _ state _ (made-ok (4096 * lowest_free state.objects n) (next_password state))
thread_call-leaves state t (call.Delete b) = row-leaves _ state _ done-ok
thread_call-leaves state t (call.Info b) = row-leaves _ state _ (info-ok state b)
thread_call-leaves state t (call.Pwadd b rights until) = row-leaves _ state _ (value-ok (next_password state))
thread_call-leaves state t (call.Pwdel b password) = row-leaves _ state _ done-ok
thread_call-leaves state t (call.Entry b off) = row-leaves _ state _ (value-ok ((row_at state b).base + off))
thread_call-leaves state t (call.Ext b clist password) = row-leaves _ state _ done-ok
thread_call-leaves state t (call.Recharge b account password) = row-leaves _ state _ done-ok
thread_call-leaves state t (call.Apdadd clist password) = row-leaves _ state _ (count-ok (length (domain_of state t)))
thread_call-leaves state t (call.Apddel index) = row-leaves _ state _ done-ok
thread_call-leaves state t (call.Pdx a mask) = row-leaves _ state _ (count-ok (length (frames_of state t) + 1))
thread_call-leaves state t call.Ret = row-leaves _ state _ (count-ok (length (frames_of state t) - 1))
thread_call-leaves state t (call.Thread pc) = row-leaves _ state _ (count-ok (free_number state.threads))
thread_call-leaves state t (call.End i) = row-leaves _ state _ done-ok
thread_call-leaves state t (call.Resume i) = row-leaves _ state _ done-ok
thread_call-leaves state t (call.Account account password amount) = row-leaves _ state _ (opened-ok (length state.accounts + 1) (next_password state))
thread_call-leaves state t (call.Pay account password to amount) = row-leaves _ state _ done-ok
thread_call-leaves state t (call.Balance account password) = row-leaves _ state _ (funds-ok (balance_of state.accounts account) (owed_by state.accounts account) (pages_of state.objects account))
thread_call-leaves state t call.Apdlist = same-leaves state _
thread_call-leaves state t _ = same-leaves state _

of_thread-leaves : (state : State) (t : ℕ) (done : Answer) → Leaves state done.0 done.1 → Leaves state (of_thread state t done).0 (of_thread state t done).1
of_thread-leaves state t done leaves = grind (arith, cond_both, same-leaves)

pub collected-ok : (period rate paid : ℕ) → IsOk (reply.Collected period rate paid)
collected-ok period rate paid = record { ok = λ word no. cc }

pub turned-ok : (after : After) → IsOk (reply.Turned after)
turned-ok after = record { ok = λ word no. cc }

run_next-leaves : (state : State) (o : Option Thread) → Leaves state (run_next state o).0 (run_next state o).1
run_next-leaves state None = same-leaves state (reply.No refusal.Idle)
run_next-leaves state (Some thread) = record { leaves = λ word no. absurd (cc) }

step_of-leaves : (state : State) (t : ℕ) (made : Call) → Leaves state (step_of state t made).0 (step_of state t made).1
step_of-leaves state t call.Bad = same-leaves state (reply.No refusal.Syntax)
step_of-leaves state t call.Rent = row-leaves _ state _ (collected-ok (state.counters.period + 1) (rate_now state) (rent_paid state))
step_of-leaves state t call.Next = run_next-leaves state (picked state)
step_of-leaves state t call.Turn = of_thread-leaves state t (turn state t) (row-leaves _ state _ (turned-ok (outcome_of (turn_state state t) t)))
step_of-leaves state t other = of_thread-leaves state t (thread_call state t other) (thread_call-leaves state t other)

pub refused-leaves : RefusedLeaves step
refused-leaves state line word refused = (step_of-leaves state line.thread line.call).leaves word refused

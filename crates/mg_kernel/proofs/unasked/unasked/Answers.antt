use Rattle.{mg_model.specs.{Turn.thread_call, declared.{calls.Call.Call, replies.Reply.Reply}}, mg_volume.specs.Calls.{Answers, CallStages}}
use Rattle.{mg_volume.specs.{Held.VolumeHeld, RunLemmas.call_wider}, std.{proofs.Common.{arith, subst, sym}, specs.Prelude.{◌≡◌, ◌≤◌, ℕ}}}
use Rattle.mg_kernel.proofs.unasked.unasked.Goals as goal

-- the call that was made
made-by : (t n : ℕ) (old new : VolumeHeld) (reply : Reply) (now made : Call) → now ≡ made → n ≤ 3 → CallStages (Answers (λ state. thread_call state t made)) n old new reply → CallStages (Answers (λ state. thread_call state t now)) 3 old new reply
made-by t n old new reply now made is few does =
    let P : Call → Type 0 = λ made. Answers (λ state. thread_call state t made) old new reply in
    call_wider (Answers (λ state. thread_call state t made)) (Answers (λ state. thread_call state t now)) n 3 old new reply few (λ answers. subst P (sym is) answers) does

pub returns-in-Create-clause-does : goal.returns-in-Create-clause-does
returns-in-Create-clause-does c = made-by c.args.thread 2 c.args.volume.now c.create.new.volume c.create.result c.args.call.now _ c.in-Create.is (omega arith) c.create.ensures

pub returns-in-Apdadd-clause-does : goal.returns-in-Apdadd-clause-does
returns-in-Apdadd-clause-does c = made-by c.args.thread 1 c.args.volume.now c.apdadd.new.volume c.apdadd.result c.args.call.now _ c.in-Apdadd.is (omega arith) c.apdadd.ensures.does

pub returns-in-Apddel-clause-does : goal.returns-in-Apddel-clause-does
returns-in-Apddel-clause-does c = made-by c.args.thread 1 c.args.volume.now c.apddel.new.volume c.apddel.result c.args.call.now _ c.in-Apddel.is (omega arith) c.apddel.ensures.does

pub returns-in-Apdlist-clause-does : goal.returns-in-Apdlist-clause-does
returns-in-Apdlist-clause-does c = made-by c.args.thread 0 c.args.volume.now c.args.volume.now c.apdlist.result c.args.call.now _ c.in-Apdlist.is (omega arith) c.apdlist.ensures

pub returns-in-Ret-clause-does : goal.returns-in-Ret-clause-does
returns-in-Ret-clause-does c = made-by c.args.thread 1 c.args.volume.now c.ret.new.volume c.ret.result c.args.call.now _ c.in-Ret.is (omega arith) c.ret.ensures.does

pub returns-in-End-clause-does : goal.returns-in-End-clause-does
returns-in-End-clause-does c = made-by c.args.thread 1 c.args.volume.now c.end.new.volume c.end.result c.args.call.now _ c.in-End.is (omega arith) c.end.ensures.does

pub returns-in-Resume-clause-does : goal.returns-in-Resume-clause-does
returns-in-Resume-clause-does c = made-by c.args.thread 1 c.args.volume.now c.resume.new.volume c.resume.result c.args.call.now _ c.in-Resume.is (omega arith) c.resume.ensures

pub returns-in-Account-clause-does : goal.returns-in-Account-clause-does
returns-in-Account-clause-does c = made-by c.args.thread 3 c.args.volume.now c.account.new.volume c.account.result c.args.call.now _ c.in-Account.is (omega arith) c.account.ensures

pub returns-in-Pay-clause-does : goal.returns-in-Pay-clause-does
returns-in-Pay-clause-does c = made-by c.args.thread 2 c.args.volume.now c.pay.new.volume c.pay.result c.args.call.now _ c.in-Pay.is (omega arith) c.pay.ensures

pub returns-in-Balance-clause-does : goal.returns-in-Balance-clause-does
returns-in-Balance-clause-does c = made-by c.args.thread 0 c.args.volume.now c.balance.new.volume c.balance.result c.args.call.now _ c.in-Balance.is (omega arith) c.balance.ensures

use Rattle.{mg_faults.specs.Faults.count_none, mg_serve.proofs.{IncomingSteps.{keeps_then, serving_on}, SessionSteps.{Broken-step, Session-line}}}
use Rattle.{mg_serve.specs.{Machines.{FailsToClose, Halts}, Serving.{Broken, Session}, Waiting.Waiting}, std.proofs.Common.{ℕ, ◌≤◌, [], ◌∷◌, ◌++◌}}
use Rattle.std.proofs.{Common.{ap, arith}, lemmas.Result.{IfErr-weaker, on_ok_weaker}}
use Rattle.mg_serve.proofs.batches.take_line.Goals as goal

pub returns-in-Err-clause-halts : goal.returns-in-Err-clause-halts
returns-in-Err-clause-halts g c =
    λ entry ls a. Broken-step g.M.Machine g.D.Disk c.args.batch entry ls c.args.machine.now c.step.new.self c.args.disk.now c.step.new.disk c.args.owed.now c.args.owed.now (g.K.Sink.taken c.args.sink.now) c.args.steps.now c.step.new.steps c.args.line.now
    c.requires.serving.open_batch a c.in-Err.ensures.traces c.in-Err.ensures.serves.writes c.in-Err.ensures.serves.settled

pub returns-then-staged-le-STAGED_LIMIT-clause-steps : goal.returns-then-staged-le-STAGED_LIMIT-clause-steps
returns-then-staged-le-STAGED_LIMIT-clause-steps g c =
    λ entry ls a. Session-line g.M.Machine g.D.Disk entry ls c.args.machine.now c.step.new.self c.args.disk.now c.step.new.disk c.args.owed.now c.add.new.self (g.K.Sink.taken c.args.sink.now) c.args.steps.now c.step.new.steps c.args.line.now c.in-Ok.reply a
    c.in-Ok.ensures.answers c.in-Ok.ensures.traces c.in-Ok.ensures.serves.writes c.add.ensures

pub returns-clause-steps : goal.returns-clause-steps
returns-clause-steps g c =
    on_ok_weaker c.close.result
    (λ h. λ entry ls a. h c.step.new.steps entry (ls ++ c.args.line.now ∷ [])
    (Session-line g.M.Machine g.D.Disk entry ls c.args.machine.now c.step.new.self c.args.disk.now c.step.new.disk c.args.owed.now c.add.new.self (g.K.Sink.taken c.args.sink.now) c.args.steps.now c.step.new.steps c.args.line.now c.in-Ok.reply a
    c.in-Ok.ensures.answers c.in-Ok.ensures.traces c.in-Ok.ensures.serves.writes c.add.ensures))
    c.close.ensures.closes

pub returns-clause-halts : goal.returns-clause-halts
returns-clause-halts g c =
    IfErr-weaker c.close.result
    (λ e. (n batch : ℕ) → c.add.new.self.count ≤ batch → FailsToClose (Session g.M.Machine g.D.Disk) (Broken g.M.Machine g.D.Disk batch) e (record { machine = c.step.new.self; disk = c.step.new.disk; owed = c.add.new.self; taken = g.K.Sink.taken c.args.sink.now; steps = n })
    (record { machine = c.close.new.machine; disk = c.close.new.disk; owed = c.close.new.owed; taken = g.K.Sink.taken c.close.new.sink; steps = n }))
    (λ e. Halts (Session g.M.Machine g.D.Disk) (Broken g.M.Machine g.D.Disk c.args.batch) e (record { machine = c.args.machine.now; disk = c.args.disk.now; owed = c.args.owed.now; taken = g.K.Sink.taken c.args.sink.now; steps = c.args.steps.now }) (c.args.line.now ∷ [])
    (record { machine = c.close.new.machine; disk = c.close.new.disk; owed = c.close.new.owed; taken = g.K.Sink.taken c.close.new.sink; steps = c.step.new.steps }))
    (λ e h. λ entry ls a. h c.step.new.steps c.args.batch (let room = c.requires.serving.open_batch in omega (arith, ap (λ (v : Waiting). v.count) c.add.ensures)) entry (ls ++ c.args.line.now ∷ [])
    (Session-line g.M.Machine g.D.Disk entry ls c.args.machine.now c.step.new.self c.args.disk.now c.step.new.disk c.args.owed.now c.add.new.self (g.K.Sink.taken c.args.sink.now) c.args.steps.now c.step.new.steps c.args.line.now c.in-Ok.reply a
    c.in-Ok.ensures.answers c.in-Ok.ensures.traces c.in-Ok.ensures.serves.writes c.add.ensures))
    c.close.ensures.halts

pub returns-clause-keeps : goal.returns-clause-keeps
returns-clause-keeps g c =
    keeps_then (record { counted = c.in-Ok.ensures.serves.counted; blocks = c.in-Ok.ensures.calls.blocks; disk_count = c.in-Ok.ensures.calls.count; sink_count = count_none _ _ }) (c.close.ensures.keeps c.step.new.steps)

pub returns-clause-serving : goal.returns-clause-serving
returns-clause-serving g c = serving_on c.close.new.owed c.close.result c.requires.serving (c.close.ensures.keeps c.step.new.steps) c.close.ensures.staged c.close.ensures.empty

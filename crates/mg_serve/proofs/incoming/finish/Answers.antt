use Rattle.{mg_model.specs.Lines.lines, mg_serve.proofs.IncomingSteps.{Halts-last, Halts-note, Runs-last, Runs-note, counts_none, counts_then}}
use Rattle.{mg_serve.{proofs.IncomingSteps.keeps_then, specs.{Machines.{FailsToClose, Halts}, Serving.{Broken, Session}}}, std.proofs.Common.{ℕ, ◌≤◌}}
use Rattle.std.proofs.{Common.{[], ◌∷◌, ◌++◌, arith, sym}, lemmas.Result.{IfErr-weaker, on_ok_weaker}}
use Rattle.mg_serve.proofs.incoming.finish.Goals as goal

pub returns-in-None-clause-steps : goal.returns-in-None-clause-steps
returns-in-None-clause-steps g c =
    on_ok_weaker c.close.result
    (λ h. Runs-note (Session g.M.Machine g.D.Disk) (record { machine = c.args.machine.now; disk = c.args.disk.now; owed = c.args.owed.now; taken = g.K.Sink.taken c.args.sink.now; steps = c.args.steps.now }) c.args.part.now (record { machine = c.close.new.machine; disk = c.close.new.disk; owed = c.close.new.owed; taken = g.K.Sink.taken c.close.new.sink; steps = c.args.steps.now }) c.in-None.ensures.whole (sym c.in-None.ensures.line) (h c.args.steps.now))
    c.close.ensures.closes

pub returns-in-None-clause-halts : goal.returns-in-None-clause-halts
returns-in-None-clause-halts g c =
    IfErr-weaker c.close.result
    (λ e. (n batch : ℕ) → c.args.owed.now.count ≤ batch → FailsToClose (Session g.M.Machine g.D.Disk) (Broken g.M.Machine g.D.Disk batch) e (record { machine = c.args.machine.now; disk = c.args.disk.now; owed = c.args.owed.now; taken = g.K.Sink.taken c.args.sink.now; steps = n }) (record { machine = c.close.new.machine; disk = c.close.new.disk; owed = c.close.new.owed; taken = g.K.Sink.taken c.close.new.sink; steps = n }))
    (λ e. Halts (Session g.M.Machine g.D.Disk) (Broken g.M.Machine g.D.Disk c.args.batch) e (record { machine = c.args.machine.now; disk = c.args.disk.now; owed = c.args.owed.now; taken = g.K.Sink.taken c.args.sink.now; steps = c.args.steps.now }) (lines c.args.part.now) (record { machine = c.close.new.machine; disk = c.close.new.disk; owed = c.close.new.owed; taken = g.K.Sink.taken c.close.new.sink; steps = c.args.steps.now }))
    (λ e h. Halts-note (Session g.M.Machine g.D.Disk) (Broken g.M.Machine g.D.Disk c.args.batch) e (record { machine = c.args.machine.now; disk = c.args.disk.now; owed = c.args.owed.now; taken = g.K.Sink.taken c.args.sink.now; steps = c.args.steps.now }) c.args.part.now (record { machine = c.close.new.machine; disk = c.close.new.disk; owed = c.close.new.owed; taken = g.K.Sink.taken c.close.new.sink; steps = c.args.steps.now }) c.in-None.ensures.whole (sym c.in-None.ensures.line) (h c.args.steps.now c.args.batch (let room = c.requires.serving.open_batch in omega arith)))
    c.close.ensures.halts

pub returns-in-Err-clause-halts : goal.returns-in-Err-clause-halts
returns-in-Err-clause-halts g c =
    Halts-last (Session g.M.Machine g.D.Disk) (Broken g.M.Machine g.D.Disk c.args.batch) c.in-Err.ended (record { machine = c.args.machine.now; disk = c.args.disk.now; owed = c.args.owed.now; taken = g.K.Sink.taken c.args.sink.now; steps = c.args.steps.now }) c.args.part.now (record { machine = c.take_line.new.machine; disk = c.take_line.new.disk; owed = c.take_line.new.owed; taken = g.K.Sink.taken c.take_line.new.sink; steps = c.take_line.new.steps }) c.in-Some.line c.in-Some.ensures.whole (sym c.in-Some.ensures.line) c.in-Err.ensures.halts

pub returns-in-Ok-clause-steps : goal.returns-in-Ok-clause-steps
returns-in-Ok-clause-steps g c =
    on_ok_weaker c.close-in-Some.result
    (λ h. Runs-last (Session g.M.Machine g.D.Disk) (record { machine = c.args.machine.now; disk = c.args.disk.now; owed = c.args.owed.now; taken = g.K.Sink.taken c.args.sink.now; steps = c.args.steps.now }) c.args.part.now (record { machine = c.close-in-Some.new.machine; disk = c.close-in-Some.new.disk; owed = c.close-in-Some.new.owed; taken = g.K.Sink.taken c.close-in-Some.new.sink; steps = c.take_line.new.steps }) c.in-Some.line c.in-Some.ensures.whole (sym c.in-Some.ensures.line)
    (λ entry sofar a. h c.take_line.new.steps entry (sofar ++ c.in-Some.line ∷ []) (c.in-Ok.ensures.steps entry sofar a)))
    c.close-in-Some.ensures.closes

pub returns-in-Ok-clause-halts : goal.returns-in-Ok-clause-halts
returns-in-Ok-clause-halts g c =
    IfErr-weaker c.close-in-Some.result
    (λ e. (n batch : ℕ) → c.take_line.new.owed.count ≤ batch → FailsToClose (Session g.M.Machine g.D.Disk) (Broken g.M.Machine g.D.Disk batch) e (record { machine = c.take_line.new.machine; disk = c.take_line.new.disk; owed = c.take_line.new.owed; taken = g.K.Sink.taken c.take_line.new.sink; steps = n }) (record { machine = c.close-in-Some.new.machine; disk = c.close-in-Some.new.disk; owed = c.close-in-Some.new.owed; taken = g.K.Sink.taken c.close-in-Some.new.sink; steps = n }))
    (λ e. Halts (Session g.M.Machine g.D.Disk) (Broken g.M.Machine g.D.Disk c.args.batch) e (record { machine = c.args.machine.now; disk = c.args.disk.now; owed = c.args.owed.now; taken = g.K.Sink.taken c.args.sink.now; steps = c.args.steps.now }) (lines c.args.part.now) (record { machine = c.close-in-Some.new.machine; disk = c.close-in-Some.new.disk; owed = c.close-in-Some.new.owed; taken = g.K.Sink.taken c.close-in-Some.new.sink; steps = c.take_line.new.steps }))
    (λ e h. Halts-last (Session g.M.Machine g.D.Disk) (Broken g.M.Machine g.D.Disk c.args.batch) e (record { machine = c.args.machine.now; disk = c.args.disk.now; owed = c.args.owed.now; taken = g.K.Sink.taken c.args.sink.now; steps = c.args.steps.now }) c.args.part.now (record { machine = c.close-in-Some.new.machine; disk = c.close-in-Some.new.disk; owed = c.close-in-Some.new.owed; taken = g.K.Sink.taken c.close-in-Some.new.sink; steps = c.take_line.new.steps }) c.in-Some.line c.in-Some.ensures.whole (sym c.in-Some.ensures.line)
    (λ entry sofar a. h c.take_line.new.steps c.args.batch (let room = c.in-Ok.ensures.serving.open_batch in omega arith) entry (sofar ++ c.in-Some.line ∷ []) (c.in-Ok.ensures.steps entry sofar a)))
    c.close-in-Some.ensures.halts

pub returns-in-Ok-clause-keeps : goal.returns-in-Ok-clause-keeps
returns-in-Ok-clause-keeps g c =
    keeps_then (counts_then (counts_none g.M.Machine g.D.Disk g.K.Sink c.args.machine.now c.args.disk.now c.args.sink.now c.args.steps.now) c.in-Ok.ensures.keeps) (c.close-in-Some.ensures.keeps c.take_line.new.steps)

pub returns-in-None-clause-keeps : goal.returns-in-None-clause-keeps
returns-in-None-clause-keeps g c = c.close.ensures.keeps c.args.steps.now

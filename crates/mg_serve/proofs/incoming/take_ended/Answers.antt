use Rattle.mg_serve.{proofs.IncomingSteps.{Breaks-line, Goes-line, Goes-on}, specs.{Incoming.Breaks, Machines.Halts, Serving.{Broken, Session}}}
use Rattle.std.proofs.{Common.{[], ◌∷◌, ◌++◌}, lemmas.Result.{IfErr-weaker, on_ok_weaker}}
use Rattle.mg_serve.proofs.incoming.take_ended.Goals as goal

pub returns-in-None-clause-goes : goal.returns-in-None-clause-goes
returns-in-None-clause-goes g c = Goes-on (Session g.M.Machine g.D.Disk) (record { machine = c.args.machine.now; disk = c.args.disk.now; owed = c.args.owed.now; taken = g.K.Sink.taken c.args.sink.now; steps = c.args.steps.now }) c.args.part.now (c.args.rest.now ++ 10 ∷ []) c.finish_with.new.self c.in-None.ensures.line

pub returns-in-Some-clause-goes : goal.returns-in-Some-clause-goes
returns-in-Some-clause-goes g c =
    on_ok_weaker c.take_line.result
    (λ h. Goes-line (Session g.M.Machine g.D.Disk) (record { machine = c.args.machine.now; disk = c.args.disk.now; owed = c.args.owed.now; taken = g.K.Sink.taken c.args.sink.now; steps = c.args.steps.now }) c.args.part.now (c.args.rest.now ++ 10 ∷ []) (record { machine = c.take_line.new.machine; disk = c.take_line.new.disk; owed = c.take_line.new.owed; taken = g.K.Sink.taken c.take_line.new.sink; steps = c.take_line.new.steps }) c.finish_with.new.self c.in-Some.line c.in-Some.ensures.line h)
    c.take_line.ensures.steps

pub returns-in-Some-clause-breaks : goal.returns-in-Some-clause-breaks
returns-in-Some-clause-breaks g c =
    IfErr-weaker c.take_line.result
    (λ e. Halts (Session g.M.Machine g.D.Disk) (Broken g.M.Machine g.D.Disk c.args.batch) e (record { machine = c.args.machine.now; disk = c.args.disk.now; owed = c.args.owed.now; taken = g.K.Sink.taken c.args.sink.now; steps = c.args.steps.now }) (c.in-Some.line ∷ []) (record { machine = c.take_line.new.machine; disk = c.take_line.new.disk; owed = c.take_line.new.owed; taken = g.K.Sink.taken c.take_line.new.sink; steps = c.take_line.new.steps }))
    (λ e. Breaks (Session g.M.Machine g.D.Disk) (Broken g.M.Machine g.D.Disk c.args.batch) e (record { machine = c.args.machine.now; disk = c.args.disk.now; owed = c.args.owed.now; taken = g.K.Sink.taken c.args.sink.now; steps = c.args.steps.now }) c.args.part.now (c.args.rest.now ++ 10 ∷ []) (record { machine = c.take_line.new.machine; disk = c.take_line.new.disk; owed = c.take_line.new.owed; taken = g.K.Sink.taken c.take_line.new.sink; steps = c.take_line.new.steps }))
    (λ e h. Breaks-line (Session g.M.Machine g.D.Disk) (Broken g.M.Machine g.D.Disk c.args.batch) e (record { machine = c.args.machine.now; disk = c.args.disk.now; owed = c.args.owed.now; taken = g.K.Sink.taken c.args.sink.now; steps = c.args.steps.now }) c.args.part.now (c.args.rest.now ++ 10 ∷ []) c.finish_with.new.self c.in-Some.line (record { machine = c.take_line.new.machine; disk = c.take_line.new.disk; owed = c.take_line.new.owed; taken = g.K.Sink.taken c.take_line.new.sink; steps = c.take_line.new.steps }) c.in-Some.ensures.line h)
    c.take_line.ensures.halts

use Rattle.mg_serve.{proofs.IncomingSteps.{Breaks-next, Goes-all, Goes-none, Goes-then, counts_none, counts_then, keeps_then}, specs.Serving.Broken}
use Rattle.{mg_serve.specs.Serving.Session, std.proofs.Common.{◌∷◌, ◌++◌, [], List, ℕ, refl, sym, ap, ◌∙◌, append_assoc}}
use Rattle.mg_serve.proofs.incoming.take_bytes.Goals as goal

pub loop-part-init : goal.loop-part-init
loop-part-init g c = record {
  done = [];
  split = refl;
  goes = Goes-none (Session g.M.Machine g.D.Disk) (record { machine = c.args.machine.now; disk = c.args.disk.now; owed = c.args.owed.now; taken = g.K.Sink.taken c.args.sink.now; steps = c.args.steps.now }) c.args.part.now;
  whole = c.requires.whole;
  serving = c.requires.serving;
  counts = counts_none g.M.Machine g.D.Disk g.K.Sink c.args.machine.now c.args.disk.now c.args.sink.now c.args.steps.now;
}

pub loop-part-preserved : goal.loop-part-preserved
loop-part-preserved g c =
    let done = c.loop-part.invariant.done in
    let ended : List ℕ = c.in-Some.line.now ++ 10 ∷ [] in
    record {
      done = done ++ ended;
      split = append_assoc done ended c.in-Some.more.now ∙ ap (λ v. done ++ v) (sym c.in-Some.ensures.split) ∙ c.loop-part.invariant.split;
      goes = Goes-then (Session g.M.Machine g.D.Disk) (record { machine = c.args.machine.now; disk = c.args.disk.now; owed = c.args.owed.now; taken = g.K.Sink.taken c.args.sink.now; steps = c.args.steps.now }) c.args.part.now done (record { machine = c.loop-part.machine; disk = c.loop-part.disk; owed = c.loop-part.owed; taken = g.K.Sink.taken c.loop-part.sink; steps = c.loop-part.steps }) c.loop-part.part ended (record { machine = c.take_ended.new.machine; disk = c.take_ended.new.disk; owed = c.take_ended.new.owed; taken = g.K.Sink.taken c.take_ended.new.sink; steps = c.take_ended.new.steps }) c.take_ended.new.part c.loop-part.invariant.goes c.in-Ok.ensures.goes;
      whole = c.in-Ok.ensures.whole;
      serving = c.in-Ok.ensures.serving;
      counts = counts_then c.loop-part.invariant.counts c.in-Ok.ensures.keeps;
    }

pub returns-in-None-clause-goes : goal.returns-in-None-clause-goes
returns-in-None-clause-goes g c = Goes-all (Session g.M.Machine g.D.Disk) (record { machine = c.args.machine.now; disk = c.args.disk.now; owed = c.args.owed.now; taken = g.K.Sink.taken c.args.sink.now; steps = c.args.steps.now }) c.args.part.now c.args.bytes.now c.loop-part.invariant.done c.loop-part.rest.now (record { machine = c.loop-part.machine; disk = c.loop-part.disk; owed = c.loop-part.owed; taken = g.K.Sink.taken c.loop-part.sink; steps = c.loop-part.steps }) c.loop-part.part c.add_all.new.self c.loop-part.invariant.split c.loop-part.invariant.goes c.add_all.ensures.same

pub returns-in-Err-clause-breaks : goal.returns-in-Err-clause-breaks
returns-in-Err-clause-breaks g c =
    Breaks-next (Session g.M.Machine g.D.Disk) (Broken g.M.Machine g.D.Disk c.args.batch) c.in-Err.ended (record { machine = c.args.machine.now; disk = c.args.disk.now; owed = c.args.owed.now; taken = g.K.Sink.taken c.args.sink.now; steps = c.args.steps.now }) c.args.part.now c.args.bytes.now c.loop-part.invariant.done c.loop-part.rest.now (c.in-Some.line.now ++ 10 ∷ []) c.in-Some.more.now (record { machine = c.loop-part.machine; disk = c.loop-part.disk; owed = c.loop-part.owed; taken = g.K.Sink.taken c.loop-part.sink; steps = c.loop-part.steps }) c.loop-part.part (record { machine = c.take_ended.new.machine; disk = c.take_ended.new.disk; owed = c.take_ended.new.owed; taken = g.K.Sink.taken c.take_ended.new.sink; steps = c.take_ended.new.steps }) c.loop-part.invariant.split c.in-Some.ensures.split c.loop-part.invariant.goes c.in-Err.ensures.breaks

pub returns-in-Err-clause-keeps : goal.returns-in-Err-clause-keeps
returns-in-Err-clause-keeps g c = keeps_then c.loop-part.invariant.counts c.in-Err.ensures.keeps

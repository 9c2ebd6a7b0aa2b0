use Rattle.{mg_model.specs.Words.is_newline, mg_serve.{proofs.IncomingSteps.CountsOn, specs.{Incoming.Goes, Serving.{IsServing, Session}}}}
use Rattle.std.{proofs.Common.{◌≡◌, ◌++◌, ℕ, List, false, length}, specs.List.list_any}
use Rattle.mg_serve.proofs.incoming.take_bytes.Given as goal

abbrev pub invariant-loop-part : goal.invariant-loop-part
invariant-loop-part g l = record {
  done : List ℕ;
  split : done ++ l.rest ≡ l.bytes;
  goes : Goes (Session g.M.Machine g.D.Disk) (record { machine = l.initial.machine; disk = l.initial.disk; owed = l.initial.owed; taken = g.K.Sink.taken l.initial.sink; steps = l.initial.steps }) l.initial.part (done) (record { machine = l.machine; disk = l.disk; owed = l.owed; taken = g.K.Sink.taken l.sink; steps = l.steps }) l.part;
  whole : list_any is_newline l.part ≡ false;
  serving : IsServing g.M.Machine g.D.Disk l.batch l.machine l.disk l.owed;
  counts : CountsOn g.M.Machine g.D.Disk g.K.Sink l.initial.machine l.initial.disk l.initial.sink l.initial.steps l.machine l.disk l.sink l.steps;
}

abbrev pub decreases-loop-part : goal.decreases-loop-part
decreases-loop-part g l = length l.rest

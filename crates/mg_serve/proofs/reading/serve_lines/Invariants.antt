use Rattle.{mg_faults.specs.Faults.CountGoesOn, mg_serve.{proofs.IncomingSteps.CountsOn, specs.{Readings.Reading, Serving.{IsServing, Session}}}}
use Rattle.std.proofs.Common.{◌≡◌, ◌-◌, ◌≤◌, length}
use Rattle.mg_serve.proofs.reading.serve_lines.Given as goal

abbrev pub invariant-pieces : goal.invariant-pieces
invariant-pieces g l = record {
  reading : Reading (Session g.M.Machine g.D.Disk) (record { machine = l.initial.machine; disk = l.initial.disk; taken = g.K.Sink.taken l.initial.sink; steps = l.initial.steps }) (g.S.Source.left l.initial.source) l.total (record { machine = l.machine; disk = l.disk; owed = l.owed; taken = g.K.Sink.taken l.sink; steps = l.steps }) l.part (g.S.Source.left l.source);
  within : l.total ≤ l.limit;
  size : length l.piece ≡ 4096;
  serving : IsServing g.M.Machine g.D.Disk l.batch l.machine l.disk l.owed;
  counts : CountsOn g.M.Machine g.D.Disk g.K.Sink l.initial.machine l.initial.disk l.initial.sink l.initial.steps l.machine l.disk l.sink l.steps;
  source_count : CountGoesOn (g.S.Source.faults l.initial.source) (g.S.Source.faults l.source) (g.S.Source.is_spent l.initial.source) (g.S.Source.is_spent l.source);
}

abbrev pub decreases-pieces : goal.decreases-pieces
decreases-pieces g l = l.limit - l.total

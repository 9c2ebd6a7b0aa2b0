use Rattle.{mg_faults.specs.Faults.CountGoesOn, mg_io.proofs.Moving.IsPartly, std.proofs.Common.{◌≡◌, length}}
use Rattle.mg_io.proofs.putting.put_all.Given as goal

abbrev pub invariant-loop-rest : goal.invariant-loop-rest
invariant-loop-rest g l = record {
  partly : IsPartly (g.K.Sink.taken l.initial.sink) (g.K.Sink.taken l.sink) l.from l.rest;
  goes_on : CountGoesOn (g.K.Sink.faults l.initial.sink) (g.K.Sink.faults l.sink)
      (g.K.Sink.is_spent l.initial.sink) (g.K.Sink.is_spent l.sink);
  untouched : length l.from ≡ 0 → l.sink ≡ l.initial.sink;
}

abbrev pub decreases-loop-rest : goal.decreases-loop-rest
decreases-loop-rest g l = length l.rest

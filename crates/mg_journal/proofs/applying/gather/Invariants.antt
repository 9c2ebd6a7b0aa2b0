use Rattle.{mg_journal.specs.Applied.HasRun, std.specs.Prelude.{◌≡◌, length}}
use Rattle.mg_journal.proofs.applying.gather.Given as goal

abbrev pub invariant-loop-j : goal.invariant-loop-j
invariant-loop-j l = record {
  gathered : HasRun l.places l.first l.j l.journal l.run;
  room : length l.run ≡ length l.initial.run;
}

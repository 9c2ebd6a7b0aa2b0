use Rattle.mg_kernel.specs.Meaning.{StandsOn}
use Rattle.test_kernel.proofs.trials.wrong_row.Given as goal

abbrev pub invariant-loop-row : goal.invariant-loop-row
invariant-loop-row g l = StandsOn g.D.Disk l.kernel l.disk

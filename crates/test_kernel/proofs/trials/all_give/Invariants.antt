use Rattle.mg_kernel.specs.Meaning.{StandsOn}
use Rattle.test_kernel.proofs.trials.all_give.Given as goal

abbrev pub invariant-loop : goal.invariant-loop
invariant-loop g l = StandsOn g.D.Disk l.kernel l.disk

use Rattle.mg_kernel.specs.Meaning.{StandsOn}
use Rattle.test_kernel.proofs.filling.is_filled.Given as goal

abbrev pub invariant-loop-page : goal.invariant-loop-page
invariant-loop-page g l = StandsOn g.D.Disk l.kernel l.disk

use Rattle.mg_kernel.specs.Meaning.{StandsOn}
use Rattle.test_kernel.proofs.probes.wrong_probe.Given as goal

abbrev pub invariant-loop-probe : goal.invariant-loop-probe
invariant-loop-probe g l = StandsOn g.D.Disk l.kernel l.disk

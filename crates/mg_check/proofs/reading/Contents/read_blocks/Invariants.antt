use Rattle.{mg_check.specs.ReadRuns.AreRead, std.specs.Prelude.length}
use Rattle.mg_check.proofs.reading.Contents.read_blocks.Given as goal

abbrev pub invariant-loop-k : goal.invariant-loop-k
invariant-loop-k g l = AreRead g.D.Disk (g.Self.Contents.of l.self) l.first l.out l.k (length l.fn.out) l.fn.disk l.disk

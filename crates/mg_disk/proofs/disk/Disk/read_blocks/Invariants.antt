use Rattle.{mg_disk.proofs.BlockByBlock.AreReadSoFar, std.specs.Prelude.length}
use Rattle.mg_disk.proofs.disk.Disk.read_blocks.Given as goal

abbrev pub invariant-loop-k : goal.invariant-loop-k
invariant-loop-k g l = AreReadSoFar g.Self.Disk l.first l.out l.k (length l.fn.out) l.initial.self l.self

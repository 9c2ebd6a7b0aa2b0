use Rattle.mg_disk.proofs.BlockByBlock.{ArePutSoFar}
use Rattle.mg_disk.proofs.disk.Disk.write_blocks.Given as goal

abbrev pub invariant-loop-k : goal.invariant-loop-k
invariant-loop-k g l = ArePutSoFar g.Self.Disk l.first l.from l.k l.initial.self l.self

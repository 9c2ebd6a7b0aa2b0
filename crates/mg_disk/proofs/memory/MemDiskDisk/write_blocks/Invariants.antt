use Rattle.mg_disk.{proofs.{BlockByBlock.ArePutSoFar, NumberedRuns.{Passed, told_by}}, specs.Memory.{counts_of, more_writes}}
use Rattle.mg_disk.proofs.memory.MemDiskDisk.write_blocks.Given as goal

abbrev pub invariant-loop-k : goal.invariant-loop-k
invariant-loop-k l = record {
  so_far : ArePutSoFar told_by l.first l.from l.k l.initial.self l.self;
  passed : Passed (more_writes (counts_of l.initial.self)) l.k l.initial.self l.self;
}

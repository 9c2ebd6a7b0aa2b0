use Rattle.mg_disk.{proofs.{BlockByBlock.AreReadSoFar, NumberedRuns.{Passed, told_by}}, specs.Memory.{counts_of, more_reads}}
use Rattle.std.specs.Prelude.{length}
use Rattle.mg_disk.proofs.memory.MemDiskDisk.read_blocks.Given as goal

abbrev pub invariant-loop-k : goal.invariant-loop-k
invariant-loop-k l = record {
  so_far : AreReadSoFar told_by l.first l.out l.k (length l.fn.out) l.initial.self l.self;
  passed : Passed (more_reads (counts_of l.initial.self)) l.k l.initial.self l.self;
}

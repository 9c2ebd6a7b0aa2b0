use Rattle.{mg_journal.specs.Standing.Stands, std.proofs.Common.◌≡◌}
use Rattle.test_store.proofs.full.are_numbered.Given as goal

-- the store stands on the disk
abbrev pub invariant-loop-k : goal.invariant-loop-k
invariant-loop-k g l = record {
  stands : Stands g.D.Disk l.store l.disk;
  blocks : g.D.Disk.block_count l.disk ≡ g.D.Disk.block_count l.fn.disk;
}

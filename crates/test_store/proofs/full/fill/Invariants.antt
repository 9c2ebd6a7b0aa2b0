use Rattle.{mg_journal.specs.Standing.{Stands, is_live, total_of}, std.proofs.Common.{◌≡◌, true}}
use Rattle.test_store.proofs.full.fill.Given as goal

-- the store stands on the disk, and may commit
abbrev pub invariant-loop-segment : goal.invariant-loop-segment
invariant-loop-segment g l = record {
  live : is_live l.store ≡ true;
  stands : Stands g.D.Disk l.store l.disk;
  total : total_of l.store ≡ 2578;
  blocks : g.D.Disk.block_count l.disk ≡ g.D.Disk.block_count l.fn.disk;
}

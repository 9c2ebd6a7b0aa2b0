use Rattle.{mg_journal.specs.Standing.{Stands, is_live, total_of}, std.proofs.Common.{◌≡◌, true}}
use Rattle.test_store.proofs.commits.commit_all.Given as goal

-- the store stands on the disk, and may commit
abbrev pub invariant-loop-number : goal.invariant-loop-number
invariant-loop-number g l = record {
  live : is_live l.store ≡ true;
  stands : Stands g.D.Disk l.store l.disk;
  total : total_of l.store ≡ 1311;
  blocks : g.D.Disk.block_count l.disk ≡ g.D.Disk.block_count l.fn.disk;
}

use Rattle.{mg_disk.specs.{Reads.Becomes, Stops.{CountGoes, Leaves, NothingPending}}, mg_journal.specs.Recovery.{AreOpen, ClosesUpTo, IsStill}}
use Rattle.{mg_model.specs.Replay.replay, std.{proofs.Common.{◌≡◌, ℕ, Some}, specs.Option.ForSome}}
use Rattle.mg_journal.proofs.recovering.close_gates.Given as goal

-- the segments before this one are closed
abbrev pub invariant-loop-segment : goal.invariant-loop-segment
invariant-loop-segment g l = record {
  blocks : g.D.Disk.block_count l.disk ≡ g.D.Disk.block_count l.initial.disk;
  count : CountGoes g.D.Disk l.initial.disk l.disk;
  settled : NothingPending g.D.Disk l.initial.disk → NothingPending g.D.Disk l.disk;
  gates : Becomes (λ a. AreOpen l.segment l.opened) (g.D.Disk.seen l.initial.disk) (g.D.Disk.seen l.disk);
  shows : Becomes (ClosesUpTo l.segment) (g.D.Disk.seen l.initial.disk) (g.D.Disk.seen l.disk);
  run : NothingPending g.D.Disk l.initial.disk → ForSome (g.D.Disk.seen l.initial.disk) (λ image. (total : ℕ) → replay image total ≡ Some image → Leaves g.D.Disk l.initial.disk l.disk (IsStill total image));
}

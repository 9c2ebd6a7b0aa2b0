use Rattle.{mg_disk.specs.Stops.{CountGoes, WritesNothing}, mg_journal.specs.Applied.HasBodies, std.specs.{Option.ForSome, Prelude.{◌≡◌, ◌+◌, ◌*◌}}}
use Rattle.std.specs.Prelude.{◌<◌, length}
use Rattle.mg_journal.proofs.applying.read_bodies.Given as goal

-- the bodies before this segment are read
abbrev pub invariant-loop-segment : goal.invariant-loop-segment
invariant-loop-segment g l = record {
  read : ForSome (g.D.Disk.seen l.initial.disk) (HasBodies l.from l.places l.journal);
  none : l.segment ≡ 0 → l.from ≡ 0;
  some : 0 < l.segment → l.from ≡ 2 + 162 * l.segment;
  whole : length l.journal ≡ length l.initial.journal;
  writes : WritesNothing g.D.Disk l.initial.disk l.disk;
  count : CountGoes g.D.Disk l.initial.disk l.disk;
  blocks : g.D.Disk.block_count l.disk ≡ g.D.Disk.block_count l.initial.disk;
}

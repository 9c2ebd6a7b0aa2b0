use Rattle.{mg_disk.specs.{Disk.SameBut, Reads.Becomes, Runs.Tracks, Stops.{CountGoes, NothingPending}}, mg_journal.specs.Applied.filled}
use Rattle.{mg_journal.specs.Contents.names, mg_model.specs.Replay.written, std.proofs.Common.{◌≡◌, ◌≤◌, ◌-◌, length, option_map, take, true}}
use Rattle.std.specs.Option.{ForSome}
use Rattle.mg_journal.proofs.applying.put_homes.Given as goal

-- the bodies up to this one are at their homes, and only homes differ, both in what reads give and in what a stop leaves
abbrev pub invariant-loop-first : goal.invariant-loop-first
invariant-loop-first g l = record {
  within : l.first ≤ length l.places;
  room : length l.run ≡ length l.initial.run;
  blocks : g.D.Disk.block_count l.disk ≡ g.D.Disk.block_count l.initial.disk;
  count : CountGoes g.D.Disk l.initial.disk l.disk;
  written : g.D.Disk.seen l.disk ≡ option_map (λ image. written image (filled image (take l.first l.places))) (g.D.Disk.seen l.initial.disk);
  torn : Becomes (λ image. SameBut (λ k. names (filled image l.places) k ≡ true) image) (g.D.Disk.seen l.initial.disk) (g.D.Disk.seen l.disk);
  tracks : NothingPending g.D.Disk l.initial.disk → ForSome (g.D.Disk.seen l.initial.disk) (λ image. Tracks g.D.Disk l.initial.disk l.disk (SameBut (λ k. names (filled image l.places) k ≡ true) image) (SameBut (λ k. names (filled image l.places) k ≡ true) image));
}

-- the places that are left
abbrev pub decreases-loop-first : goal.decreases-loop-first
decreases-loop-first g l = length l.places - l.first

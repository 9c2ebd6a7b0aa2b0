use Rattle.{mg_disk.specs.{Disk.TornAt, Stops.{CountGoes, Leaves, MightHaveLeft}}, mg_layout.specs.FreshBelow.fresh_until, std.proofs.Common.◌≡◌}
use Rattle.std.proofs.Common.{◌≤◌, option_map}
use Rattle.mg_layout.proofs.behind.write_behind.Given as goal

-- the blocks up to this one are written, and only blocks after the gate differ
abbrev pub invariant-loop-i : goal.invariant-loop-i
invariant-loop-i g l = record {
  blocks : g.D.Disk.block_count l.disk ≡ g.D.Disk.block_count l.initial.disk;
  count : CountGoes g.D.Disk l.initial.disk l.disk;
  written : g.D.Disk.seen l.disk ≡ option_map (fresh_until l.params l.i) (g.D.Disk.seen l.initial.disk);
  torn : Leaves g.D.Disk l.initial.disk l.disk (TornAt (λ k. 1 ≤ k) (MightHaveLeft g.D.Disk l.initial.disk));
}

use Rattle.{mg_check.specs.Reads.contents, mg_disk.specs.{Disk.{SeenBut, TornAt}, Reads.OnlyRead, Stops.{CountGoes, Leaves, MightHaveLeft}}}
use Rattle.{mg_migrate.proofs.CopySteps.AreBefore, std.{proofs.Common.{◌≡◌, ◌≤◌, ◌-◌}, specs.Option.ForSome}}
use Rattle.mg_migrate.proofs.copying.copy_behind.Given as goal

-- the blocks before this one are copied, and only blocks after the gate differ
abbrev pub invariant-loop-first : goal.invariant-loop-first
invariant-loop-first g l = record {
  behind : 1 ≤ l.first;
  blocks : g.D.Disk.block_count l.new ≡ g.D.Disk.block_count l.initial.new;
  count : CountGoes g.D.Disk l.initial.new l.new;
  torn : Leaves g.D.Disk l.initial.new l.new (TornAt (λ k. 1 ≤ k) (MightHaveLeft g.D.Disk l.initial.new));
  seen : SeenBut (λ k. 1 ≤ k) (g.D.Disk.seen l.initial.new) (g.D.Disk.seen l.new);
  copied : ForSome (contents g.E.Disk (g.C.Contents.of l.view) l.initial.old) (λ r. ForSome (g.D.Disk.seen l.new) (AreBefore l.total l.first r));
  reads : OnlyRead g.E.Disk l.initial.old l.old;
}

abbrev pub decreases-loop-first : goal.decreases-loop-first
decreases-loop-first g l = l.total - l.first

use Rattle.{mg_disk.specs.{Disk.{SeenBut, TornAt}, Stops.TimeGoes}, mg_mirror.{proofs.Copied.AreBefore, specs.Copy.CopySteps}, std.proofs.Common.◌≤◌}
use Rattle.std.{proofs.Common.◌-◌, specs.Option.ForSome}
use Rattle.mg_mirror.proofs.copy.copy_rest.Given as goal

-- the blocks before this one are copied, and only those from the start on differ
abbrev pub invariant-loop-next : goal.invariant-loop-next
invariant-loop-next g l = record {
  from_start : l.start ≤ l.next;
  stops : TimeGoes g.E.Disk l.initial.to l.to (TornAt (λ k. l.start ≤ k) ((g.E.Disk.time l.initial.to).left_since (g.E.Disk.time l.initial.to).moment));
  seen : SeenBut (λ k. l.start ≤ k) (g.E.Disk.seen l.initial.to) (g.E.Disk.seen l.to);
  copied : ForSome (g.D.Disk.seen l.initial.from) (λ x. ForSome (g.E.Disk.seen l.to) (AreBefore l.start l.blocks l.next x));
  steps : CopySteps g.D.Disk g.E.Disk l.initial.from l.from l.initial.to l.to;
}

abbrev pub decreases-loop-next : goal.decreases-loop-next
decreases-loop-next g l = l.blocks - l.next

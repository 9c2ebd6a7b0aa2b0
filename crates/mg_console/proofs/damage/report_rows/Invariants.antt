use Rattle.{mg_disk.specs.Stops.WritesNothing, mg_journal.specs.Looked.Fits, std.{proofs.Common.◌≡◌, specs.Option.ForSome}}
use Rattle.mg_console.proofs.damage.report_rows.Given as goal

-- nothing was written, and the view fits what reads give
abbrev pub invariant-loop-i : goal.invariant-loop-i
invariant-loop-i g l = record {
  writes : WritesNothing g.D.Disk l.initial.disk l.disk;
  blocks : g.D.Disk.block_count l.disk ≡ g.D.Disk.block_count l.initial.disk;
  fits : ForSome (g.D.Disk.seen l.disk) (λ image. Fits l.view image);
}

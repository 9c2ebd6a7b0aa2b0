use Rattle.{mg_check.specs.Reads.{IsRun, contents}, mg_disk.specs.Reads.OnlyRead, mg_rules.specs.TableTold.{AreEntries, table_entry}}
use Rattle.std.{proofs.Common.{◌≡◌, ◌≤◌, length, min}, specs.Option.ForSome}
use Rattle.mg_check.proofs.table.read_table.Given as goal

-- the entries before this one are read, and what is at hand are blocks of the contents
abbrev pub invariant-loop-f : goal.invariant-loop-f
invariant-loop-f g l = record {
  reads : OnlyRead g.D.Disk l.initial.disk l.disk;
  there : ForSome (contents g.D.Disk (g.C.Contents.of l.view) l.initial.disk) (IsRun l.run.first l.run.count l.run.blocks);
  few : l.run.count ≤ 32;
  told : ForSome (contents g.D.Disk (g.C.Contents.of l.view) l.initial.disk) (λ r. AreEntries (table_entry r) l.f l.frames l.table.items);
  long : length l.table.items ≡ min l.f l.frames;
}

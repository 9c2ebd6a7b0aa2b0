use Rattle.{mg_check.specs.Reads.{IsRun, contents}, mg_disk.specs.Reads.OnlyRead, mg_model.specs.Replay.block_of, mg_rules.specs.RowsRead.ArePlaced}
use Rattle.{mg_rules.specs.{RowsRead.live_from, TableRows.{AreLive, EachKeeps}}, std.proofs.Common.{◌≤◌, length, vec_capacity}}
use Rattle.std.specs.Option.{ForSome}
use Rattle.mg_check.proofs.table_rows.read_places.Given as goal

-- the rows before this one are held, and what is at hand are blocks of the contents
abbrev pub invariant-loop-i : goal.invariant-loop-i
invariant-loop-i g l = record {
  reads : OnlyRead g.D.Disk l.initial.disk l.disk;
  there : ForSome (contents g.D.Disk (g.C.Contents.of l.view) l.initial.disk) (IsRun l.run.first l.run.count l.run.blocks);
  few : l.run.count ≤ 32;
  told : ForSome (contents g.D.Disk (g.C.Contents.of l.view) l.initial.disk) (λ r. AreLive (λ i. g.R.TableRow.spelled (block_of r (g.R.TableRow.block_at i)) i) l.i (live_from 0 l.rows.items));
  placed : ArePlaced l.i (live_from 0 l.rows.items);
  kept : EachKeeps g.R.TableRow.IsKept (live_from 0 l.rows.items);
  long : length l.rows.items ≤ l.i;
  room : g.R.TableRow.ROWS ≤ vec_capacity l.rows;
}

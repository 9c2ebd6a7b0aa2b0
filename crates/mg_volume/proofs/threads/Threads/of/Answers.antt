use Rattle.{mg_volume.{proofs.ByNumber.next_row, specs.Numbered.rows_with}, std.proofs.Common.{◌∙◌, ◌+◌, Some, ap}}
use Rattle.mg_volume.proofs.threads.Threads.of.Goals as goal

pub loop-row-preserved : goal.loop-row-preserved
loop-row-preserved c =
    c.put.ensures.rows ∙ ap (rows_with (c.row-item.result.0 + 1) (Some c.row-item.result.1)) c.loop-row.invariant
    ∙ next_row c.args.rows.now c.loop-row.row-index c.row-item.result c.requires c.loop-row-test.true c.row-item.is

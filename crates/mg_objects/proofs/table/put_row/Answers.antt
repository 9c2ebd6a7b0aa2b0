use Rattle.{mg_objects.proofs.Rows.{push-put, set-put}, std.proofs.Common.{Some, arith}}
use Rattle.mg_objects.proofs.table.put_row.Goals as goal

pub returns-then-place-len-clause-put : goal.returns-then-place-len-clause-put
returns-then-place-len-clause-put c = set-put c.args.table.now.items c.args.place (Some c.args.row) (omega (arith, c.len.ensures, c.args.table.now.ok.0))

pub returns-in-Ok-clause-put : goal.returns-in-Ok-clause-put
returns-in-Ok-clause-put c =
    let len = c.len.ensures in
    rw c.in-Ok.ensures.items (push-put c.args.table.now.items c.args.place (Some c.args.row) (omega (arith, c.args.table.now.ok.0)))

use Rattle.{mg_migrate.proofs.OldReads.{lifted_contents, read_so, without_state}, std.proofs.Common.{Err, ap, ◌∙◌}}
use Rattle.mg_migrate.proofs.old_volume.read_lifted.Goals as goal

pub read_rows-requires-clause-can : goal.read_rows-requires-clause-can
read_rows-requires-clause-can g c = record { room = c.requires.within_disk; fits = λ image told. (c.requires.seen image told).fits }

pub returns-in-Ok-clause-told : goal.returns-in-Ok-clause-told
returns-in-Ok-clause-told g c image told =
    let seen = c.requires.seen image told in
    read_so c.args.params.now c.args.seen.now c.requires.settings image seen c.in-Ok.rows (c.in-Ok.ensures.told _ (lifted_contents g.E.Disk c.args.old.now c.args.seen.now image seen told))

pub returns-in-Err-Damaged-clause-none : goal.returns-in-Err-Damaged-clause-none
returns-in-Err-Damaged-clause-none g c image told =
    let seen = c.requires.seen image told in
    without_state c.args.params.now c.args.seen.now c.requires.settings image seen
    (c.read_rows.ensures.damaged (c.in-Err-Damaged.is ∙ ap Err c.in-Err-Damaged.field-0-is) _ (lifted_contents g.E.Disk c.args.old.now c.args.seen.now image seen told))

use Rattle.{mg_migrate.{proofs.LiftedRows.{lifted-none, lifted-some}, specs.Lifted.object1_bytes_in}, mg_rows.specs.Answers.row_in}
use Rattle.std.proofs.Common.{◌∙◌}
use Rattle.mg_migrate.proofs.rows.lifted_row.Goals as goal

pub returns-in-Some-clause-value : goal.returns-in-Some-clause-value
returns-in-Some-clause-value c = c.spelling.ensures.value ∙ lifted-some (object1_bytes_in c.args.old.now c.args.k) (row_in c.in-Some.row) c.in-Some.ensures

pub returns-in-None-clause-value : goal.returns-in-None-clause-value
returns-in-None-clause-value c = lifted-none (object1_bytes_in c.args.old.now c.args.k) c.in-None.ensures

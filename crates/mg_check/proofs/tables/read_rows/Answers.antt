use Rattle.{mg_rules.specs.ToldLemmas.{damaged-rows, told-rows}, std.proofs.Common.rules}
use Rattle.mg_check.proofs.tables.read_rows.Goals as goal

pub returns-in-Ok-true-clause-told : goal.returns-in-Ok-true-clause-told
returns-in-Ok-true-clause-told g c r told =
    told-rows c.in_ok-rows.rows c.args.params.now c.in_ok-rows.ensures.params r (c.in_ok-rows.ensures.told r told) (search rules)

pub returns-in-Ok-false-clause-damaged : goal.returns-in-Ok-false-clause-damaged
returns-in-Ok-false-clause-damaged g c is r told =
    damaged-rows c.in_ok-rows.rows c.args.params.now c.in_ok-rows.ensures.params r (c.in_ok-rows.ensures.told r told) (search rules)

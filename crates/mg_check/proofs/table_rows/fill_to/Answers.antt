use Rattle.{mg_rules.specs.LiveTableLemmas.behind-none, std.proofs.{Common.arith, lemmas.List.length-append}}
use Rattle.mg_check.proofs.table_rows.fill_to.Goals as goal

pub loop-preserved : goal.loop-preserved
loop-preserved g c = grind (arith, length-append, behind-none)

use Rattle.{mg_check.proofs.Counted.told, mg_rules.specs.LiveTableLemmas.{live-count, live-pages}, std.proofs.Common.arith}
use Rattle.mg_check.proofs.examining.summary_of.Goals as goal

pub returns-clause-told : goal.returns-clause-told
returns-clause-told c replayed = grind (arith, told, live-count, live-pages)

use Rattle.{mg_journal.proofs.PhaseSteps.wrote_all, std.proofs.{Common.rules, lemmas.Result.on_ok_weaker}}
use Rattle.mg_journal.proofs.segment.write_segment.Goals as goal

pub returns-clause-written : goal.returns-clause-written
returns-clause-written g c = search (rules, on_ok_weaker, wrote_all)

use Rattle.mg_commands.specs.HistoryLemmas.{runs_hold}
use Rattle.mg_commands.proofs.history.runs_hold_what_was_answered.Goals as goal

pub returns : goal.returns
returns g c = runs_hold g.D.Disk g.S.Source g.K.Sink

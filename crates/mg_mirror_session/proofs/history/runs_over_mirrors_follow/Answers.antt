use Rattle.mg_mirror_session.proofs.HistorySteps.{mirrors_follow}
use Rattle.mg_mirror_session.proofs.history.runs_over_mirrors_follow.Goals as goal

pub returns : goal.returns
returns g c = mirrors_follow g.D.Disk g.E.Disk g.S.Source g.K.Sink g.met.D.Disk.only_told g.met.E.Disk.only_told

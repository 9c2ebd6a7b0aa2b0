use Rattle.{mg_volume.proofs.ThreadChanged.thread_changed, std.proofs.Common.◌∙◌}
use Rattle.mg_volume.proofs.volume.Volume.change_thread.Goals as goal

pub returns-clause-now : goal.returns-clause-now
returns-clause-now c change gives image = c.stage_thread.ensures.now image ∙ thread_changed c.args.self.now image c.args.number c.args.row change c.numbers_differ.ensures c.requires.lives gives

use Rattle.mg_window_session.proofs.Answering.{serves_behind}
use Rattle.mg_window_session.proofs.stepping.load.Goals as goal

pub returns-in-Ok-None-clause-serves : goal.returns-in-Ok-None-clause-serves
returns-in-Ok-None-clause-serves g c =
    serves_behind g.D.Disk c.args.kernel.now c.reach.new.kernel c.step.new.kernel c.args.disk.now c.reach.new.disk c.step.new.disk c.args.steps.now c.reach.new.steps c.step.new.steps c.in-Ok-None.ensures.looks c.step.ensures.serves

use Rattle.{mg_kernel.specs.Meaning.now_of, mg_window.specs.Attached.seen, mg_window_session.proofs.Answering.plain_answered}
use Rattle.{mg_window_session.specs.Stepping.dropped, std.proofs.Common.{ap, ◌∙◌}}
use Rattle.mg_window_session.proofs.stepping.step.Goals as goal

pub returns-in-Ok-clause-answers : goal.returns-in-Ok-clause-answers
returns-in-Ok-clause-answers g c =
    plain_answered g.D.Disk c.args.line.now c.args.kernel.now c.step.new.self (seen g.T.Device.held c.args.windows.now) (seen g.T.Device.held c.drop_gone.new.windows) c.args.disk.now c.in-Ok.reply c.in-Ok.ensures.answers.answers
    (λ image is. c.drop_gone.ensures image ∙ ap (λ those. dropped (now_of c.step.new.self image) those (seen g.T.Device.held c.args.windows.now)) (c.as_slice.ensures.value ∙ c.bases-bases.ensures image))

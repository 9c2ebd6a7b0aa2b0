use Rattle.mg_commands.specs.DryLemmas.{dry_keeps, none_rose}
use Rattle.mg_session.proofs.dry.dry.Goals as goal

pub returns : goal.returns
returns g c =
    dry_keeps _ g.S.Source g.K.Sink c.args.params.now c.run.result c.in-Ok.disk c.format.new.disk c.run.new.disk _ c.args.source.now c.run.new.source c.args.sink.now c.run.new.sink c.args.steps.now c.run.new.steps
    c.in-Ok.ensures.zeros c.in-Ok-format.ensures.made (λ rose. none_rose rose) c.run.ensures.keeps

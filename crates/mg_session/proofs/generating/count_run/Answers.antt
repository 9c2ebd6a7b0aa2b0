use Rattle.{mg_commands.specs.{GeneratedLemmas.run_keeps, Headline.{replies_from, generated_lines}}, mg_gen.specs.Tallies.tally_of}
use Rattle.{mg_model.specs.{Fresh.fresh, Warmth.cost}, std.proofs.Common.{ap, subst, ◌∙◌, ◌≤◌, ◌+◌}}
use Rattle.mg_session.proofs.generating.count_run.Goals as goal

pub returns : goal.returns
returns g c =
    let machine = c.in-Some.ensures in
    let lines = generated_lines c.args.number c.args.count in
    let begins = machine.now ∙ ap fresh c.settings.ensures in
    run_keeps g.K.Sink c.counts_add_up.ensures.text c.args.number c.args.count c.put_tally.result c.args.sink.now c.put_tally.new.sink c.args.steps.now c.tally_lines.new.steps c.in-Ok.tally
    (c.in-Ok.ensures.counts machine.image machine.is ∙ ap (λ s. tally_of (replies_from s lines)) begins)
    (subst (λ s. c.tally_lines.new.steps ≤ c.args.steps.now + cost s lines) begins (c.in-Ok.ensures.cost machine.image machine.is))
    c.put_tally.ensures.ends c.put_tally.ensures.put c.put_tally.ensures.prefix c.put_tally.ensures.sink

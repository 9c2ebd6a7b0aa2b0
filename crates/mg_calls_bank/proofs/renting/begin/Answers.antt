use Rattle.{mg_model.specs.State.Counters, mg_volume.specs.Meaning.now_of, std.proofs.Common.{ap, ◌∙◌}}
use Rattle.mg_calls_bank.proofs.renting.begin.Goals as goal

pub returns-clause-now : goal.returns-clause-now
returns-clause-now c image =
    let state = now_of c.args.volume.now image in
    c.stage_globals.ensures.now image ∙ ap (λ (k : Counters). record state { counters = k }) (c.set_period.ensures ∙ ap (λ (k : Counters). record k { period = c.args.period }) c.globals-globals.ensures)

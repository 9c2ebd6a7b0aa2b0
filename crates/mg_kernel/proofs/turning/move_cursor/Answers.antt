use Rattle.{mg_model.specs.State.Counters, mg_volume.specs.{Meaning.now_of, StateLemmas.now_counters}, std.proofs.Common.{ap, sym, ◌∙◌}}
use Rattle.mg_kernel.proofs.turning.move_cursor.Goals as goal

pub returns-clause-now : goal.returns-clause-now
returns-clause-now c image =
    let state = now_of c.args.volume.now image in
    c.stage_globals.ensures.now image ∙ ap (λ (k : Counters). record state { counters = k }) (c.set_cursor.ensures ∙ ap (λ (k : Counters). record k { cursor = c.args.thread }) (c.globals-globals.ensures ∙ sym (now_counters c.args.volume.now image)))

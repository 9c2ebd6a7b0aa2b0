use Rattle.{mg_model.specs.State.Counters, mg_volume.{proofs.{ThreadSearch.takes_turn, ThreadsFound.{next_again, next_first}}, specs.Held.VolumeHeld}}
use Rattle.std.{proofs.Common.{ap, sym, ◌∙◌}, specs.Prelude.{find, option_map}}
use Rattle.mg_volume.proofs.volume.Volume.next_ready.Goals as goal

pub returns-in-Some : goal.returns-in-Some
returns-in-Some c image =
    next_first c.args.self.now image c.cursor.result c.in-Some.t (c.cursor.ensures ∙ ap (λ (k : Counters). k.cursor) c.globals.ensures)
    (sym c.in-Some.is ∙ c.ready_above.ensures ∙ ap (λ (v : VolumeHeld). option_map (λ x. x.0) (find (takes_turn c.cursor.result) v.threads)) c.self.view_is)

pub returns-in-None : goal.returns-in-None
returns-in-None c image =
    next_again c.args.self.now image c.cursor.result c.ready_above-in-None.result (c.cursor.ensures ∙ ap (λ (k : Counters). k.cursor) c.globals.ensures)
    (sym c.in-None.is ∙ c.ready_above.ensures ∙ ap (λ (v : VolumeHeld). option_map (λ x. x.0) (find (takes_turn c.cursor.result) v.threads)) c.self.view_is)
    (c.ready_above-in-None.ensures ∙ ap (λ (v : VolumeHeld). option_map (λ x. x.0) (find (takes_turn 0) v.threads)) c.self.view_is)

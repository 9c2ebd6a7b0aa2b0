use Rattle.{mg_model.specs.State.Thread, mg_volume.{proofs.Found.thread_found, specs.{Held.VolumeHeld, Meaning.threads_in}}}
use Rattle.{mg_volume.specs.contracts.volume.Volume.the_view, std.{proofs.Common.{◌≡◌, ◌==◌, None, Some, subst}, specs.Prelude.{find, option_map}}}
use Rattle.mg_volume.proofs.volume.Volume.thread.Goals as goal

pub returns-in-Some-clause-found : goal.returns-in-Some-clause-found
returns-in-Some-clause-found c =
    subst (λ (v : VolumeHeld). option_map (λ (thread : Thread). thread.row) (find (λ (thread : Thread). thread.number == c.args.number) (threads_in v)) ≡ Some c.in-Some.row.now) c.self.view_is
    (thread_found (the_view c.self.inside) c.args.number (Some c.in-Some.row.now) c.in-Some.ensures.found)

pub returns-in-None-clause-found : goal.returns-in-None-clause-found
returns-in-None-clause-found c =
    subst (λ (v : VolumeHeld). option_map (λ (thread : Thread). thread.row) (find (λ (thread : Thread). thread.number == c.args.number) (threads_in v)) ≡ None) c.self.view_is
    (thread_found (the_view c.self.inside) c.args.number None c.in-None.ensures.found)

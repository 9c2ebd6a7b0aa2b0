use Rattle.{mg_model.specs.State.Thread, mg_volume.{proofs.Found.thread_found, specs.{Held.VolumeHeld, Meaning.threads_in}}}
use Rattle.{mg_volume.specs.contracts.volume.Volume.the_view, std.{proofs.Common.{◌≡◌, ◌==◌, subst}, specs.{Option.option_copied, Prelude.find}}}
use Rattle.std.specs.Prelude.{option_map}
use Rattle.mg_volume.proofs.volume.Volume.thread_ref.Goals as goal

pub returns-clause-found : goal.returns-clause-found
returns-clause-found c =
    subst (λ (v : VolumeHeld). option_map (λ (thread : Thread). thread.row) (find (λ (thread : Thread). thread.number == c.args.number) (threads_in v)) ≡ option_copied c.get.result) c.self.view_is
    (thread_found (the_view c.self.inside) c.args.number (option_copied c.get.result) c.get.ensures.found)

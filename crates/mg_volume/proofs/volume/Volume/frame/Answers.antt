use Rattle.{mg_model.specs.State.{Thread, ThreadRow}, mg_volume.{proofs.Found.{thread_none, thread_some}, specs.Held.VolumeHeld}}
use Rattle.{mg_volume.specs.{Meaning.threads_in, contracts.volume.Volume.the_view}, std.proofs.Common.{◌≡◌, ◌==◌, ◌∙◌, ◌-◌, None, Some, ap, length}}
use Rattle.std.{proofs.Common.{slice_get, subst}, specs.Prelude.find}
use Rattle.mg_volume.proofs.volume.Volume.frame.Goals as goal

pub returns-in-Some-clause-found : goal.returns-in-Some-clause-found
returns-in-Some-clause-found c =
    let thread = thread_some (the_view c.self.inside) c.args.number c.in-Some.row.now c.in-Some.ensures.found in (
      thread.0,
      subst (λ (v : VolumeHeld). find (λ (x : Thread). x.number == c.args.number) (threads_in v) ≡ Some thread.0) c.self.view_is thread.1,
      ap (λ (row : ThreadRow). slice_get row.frames (length row.frames - 1)) thread.2 ∙ c.last.ensures,
    )

pub returns-in-None-clause-found : goal.returns-in-None-clause-found
returns-in-None-clause-found c =
    subst (λ (v : VolumeHeld). find (λ (x : Thread). x.number == c.args.number) (threads_in v) ≡ None) c.self.view_is
    (thread_none (the_view c.self.inside) c.args.number c.in-None.ensures.found)

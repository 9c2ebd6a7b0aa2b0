use Rattle.{mg_model.specs.Abbreviations.free_number, mg_volume.{proofs.ThreadsFound.free_held, specs.{Held.VolumeHeld, Meaning.threads_in}}}
use Rattle.{mg_volume.specs.{Staging.lives, contracts.volume.Volume.the_view}, std.proofs.Common.{◌≡◌, ◌<◌, ◌≤◌, false, length, subst}}
use Rattle.std.specs.Option.{MatchOption}
use Rattle.mg_volume.proofs.volume.Volume.free_number.Goals as goal

pub returns-clause-number : goal.returns-clause-number
returns-clause-number c =
    subst (λ (v : VolumeHeld). MatchOption c.free.result (256 ≤ length (threads_in v)) (λ n. (length (threads_in v) < 256) × (n ≡ free_number (threads_in v)) × (lives v n ≡ false))) c.self.view_is
    (free_held (the_view c.self.inside) c.free.result c.free.ensures.number)

use Rattle.{mg_volume.{proofs.Found.row_found, specs.{Held.VolumeHeld, Meaning.objects_in, contracts.volume.Volume.the_view}}, std.proofs.Common.◌≡◌}
use Rattle.std.{proofs.Common.{◌==◌, subst}, specs.{Option.option_copied, Prelude.find}}
use Rattle.mg_volume.proofs.volume.Volume.object_ref.Goals as goal

pub returns : goal.returns
returns c =
    subst (λ (v : VolumeHeld). option_copied c.get.result ≡ find (λ row. row.base == c.args.base) (objects_in v)) c.self.view_is
    (row_found (the_view c.self.inside) (λ row. row.base == c.args.base) (option_copied c.get.result) c.get.ensures)

use Rattle.{mg_disk.specs.Disk.Image, mg_model.specs.Objects.lowest_free, mg_volume.{proofs.RowTotals.apart-bare, specs.Held.VolumeHeld}}
use Rattle.{mg_volume.specs.{Meaning.{now_of, objects_in}, StateLemmas.now_rows, contracts.volume.Volume.the_view}, std.proofs.Common.{◌≡◌, subst}}
use Rattle.mg_volume.proofs.volume.Volume.first.Goals as goal

pub returns-clause-lowest : goal.returns-clause-lowest
unfolding objects_in
returns-clause-lowest c =
    let v = the_view c.self.inside in
    let P : VolumeHeld → Type 0 = λ w. (image : Image) → c.first.result ≡ lowest_free (now_of w image).objects c.args.pages in
    let held : P v = λ image. c.first.ensures.lowest (now_of v image).objects (now_rows v image) in
    subst P c.self.view_is held

pub returns-clause-apart : goal.returns-clause-apart
unfolding objects_in
returns-clause-apart c = rw (← c.self.view_is) (apart-bare c.first.result c.args.pages c.self.inside.objects c.first.ensures.free)

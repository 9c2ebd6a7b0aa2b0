use Rattle.mg_layout.proofs.{ChangedImages.{later_version, old_version, overfull}, FreshVolume.fresh_volume}
use Rattle.mg_model.specs.VolumeLemmas.{volume-closed}
use Rattle.mg_layout.proofs.laws.images_are_read.Goals as goal

pub returns : goal.returns
returns c = record {
  fresh = fresh_volume;
  closed = volume-closed;
  lower = λ image is older. old_version image is.opened is.begins older;
  higher = λ image is later. later_version image is.opened is.begins later;
  overfull = overfull;
}

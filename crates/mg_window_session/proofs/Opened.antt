-- An opened kernel, as a machine whose state over an image is the one that the image spelled.
use Rattle.{mg_commands.specs.OpeningLemmas.OpensAs, mg_disk.specs.Disk.Image, mg_kernel.specs.{Meaning.now_of, Opening.Opens}}
use Rattle.{mg_kernel.specs.declared.kernel.Kernel.Kernel, mg_model.specs.Volume.VolumeRead, std.specs.Prelude.Option}

pub opens_as : (k : Kernel) (before : VolumeRead) (told : Option Image) → Opens before k told → OpensAs (λ image. now_of k image) before told
opens_as k before told o = record { state = o.state; is = o.is; image = o.holds.image; seen = o.holds.is; has = o.holds.now }

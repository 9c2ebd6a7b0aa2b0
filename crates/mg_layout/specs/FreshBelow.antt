-- The image with the blocks of a fresh volume below a number.
use Rattle.std.specs.Prelude.{ℕ, zero, suc, if◌then◌else◌, slice_set}
use Rattle.{mg_disk.specs.Disk.Image, mg_layout.specs.FreshImage.{fresh_bytes, is_written}}
use Rattle.mg_model.specs.Settings.{Settings}

-- the image with block i of a fresh volume, if i is one of the blocks after the gate that are written
abbrev pub with_block : Settings → ℕ → Image → Image
with_block settings i image = if is_written settings.frames i then slice_set image i (fresh_bytes settings i) else image

-- n blocks from the superblock on
unfoldable pub fresh_until : Settings → ℕ → Image → Image
fresh_until settings zero image = image
fresh_until settings (suc n) image = with_block settings (suc n) (fresh_until settings n image)

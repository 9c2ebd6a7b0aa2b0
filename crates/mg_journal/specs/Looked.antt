-- What a view holds, and when it fits an image.
use Rattle.std.specs.{Option.ForSome, Prelude.{◌≡◌, ◌≤◌, ℕ, true, List}}
use Rattle.{mg_disk.specs.{Disk.Image, declared.disk.Disk.Ghosts}, mg_journal.specs.Newest.HasLast}
use Rattle.{mg_journal.specs.Places.places_since, mg_model.specs.{Abbreviations.segments_fit, Layout.globals_block}}
use Rattle.mg_model.specs.Layout.{segment_count}

-- the number of blocks of a volume, and where the newest body of each block lies that its open segments have: pairs of the block
-- that a body belongs to and the block that holds it
pub record Placed : Type 0 where
  pub total : ℕ
  pub table : List (ℕ × ℕ)

-- the journal of the image can be replayed, and the table has the last of the bodies that its open segments have for a block
pub record Fits (view : Placed) (image : Image) : Type 0 where
  pub fit : segments_fit view.total image 0 segment_count ≡ true
  pub newest : HasLast (places_since image 0 segment_count) view.table

-- the volume is on the disk, and the view fits what reads give
pub record IsViewOf {D : Type 0} (facts : Ghosts D) (view : Placed) (disk : D) : Type 0 where
  pub journal : globals_block ≤ view.total
  pub room : view.total ≤ facts.block_count disk
  pub fits : ForSome (facts.seen disk) (Fits view)

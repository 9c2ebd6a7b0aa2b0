-- Four rows of objects are staged, as they are held.
use Rattle.std.specs.Prelude.{◌≡◌, ◌+◌, ◌*◌, ◌/◌, ◌<◌, ℕ, List, Some}
use Rattle.{mg_model.specs.{Layout.first_object_block, State.ObjectRow}, mg_pages.specs.Meaning.StagesBlock}
use Rattle.{mg_pages.specs.declared.pages.Pages.Pages, mg_rows.specs.Blocks.object_in, mg_volume.specs.RowLists.row_at}

-- the block of the row at this place, and nothing else
pub record StagesRows (objects : List (ℕ × ObjectRow)) (place : ℕ) (old new : Pages) : Type 0 where
  pub bytes : List ℕ
  pub rows : (j : ℕ) → j < 4 → object_in bytes j ≡ Some (row_at (4 * (place / 4) + j) objects)
  pub block : StagesBlock (first_object_block + place / 4) bytes old new

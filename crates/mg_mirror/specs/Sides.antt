-- What a mirror shows of its sides.
use Rattle.std.specs.Prelude.{◌≡◌, ◌⊎◌, Option, Some, None, Result, OnErr}
use Rattle.{mg_disk.specs.{Stops.CountRose, declared.disk.Disk.Ghosts}, mg_mirror.specs.declared.mirror.Side.Side}
use Rattle.mg_mirror.specs.declared.mirror.Side.TheVariants.{Left, Right}

-- a call fails only if each side in use failed in it
pub record FailsWithSides {D E T F : Type 0} (d : Ghosts D) (e : Ghosts E) (alone : Option Side) (left left' : D) (right right' : E) (result : Result T F) : Type 0 where
  pub both_left : alone ≡ None → OnErr result (CountRose d left left')
  pub both_right : alone ≡ None → OnErr result (CountRose e right right')
  pub only_left : alone ≡ Some Left → OnErr result (CountRose d left left')
  pub only_right : alone ≡ Some Right → OnErr result (CountRose e right right')

-- a read drops no side and reaches none that was dropped; while both are in use it reaches the right one only if the left one failed
pub record ReadsSides {D E : Type 0} (d : Ghosts D) (alone alone' : Option Side) (left left' : D) (right right' : E) : Type 0 where
  pub stays : alone' ≡ alone
  pub only_left : alone ≡ Some Left → right' ≡ right
  pub only_right : alone ≡ Some Right → left' ≡ left
  pub left_first : alone ≡ None → (right' ≡ right) ⊎ CountRose d left left'

-- A write or a sync drops a side only if that side failed in it, and the right one if both did. It reaches no side that was
-- dropped, and the other one stays alone.
pub record DropsSides {D E T F : Type 0} (d : Ghosts D) (e : Ghosts E) (alone alone' : Option Side) (left left' : D) (right right' : E) (result : Result T F) : Type 0 where
  pub dropped_right : alone ≡ None → alone' ≡ Some Left → CountRose e right right'
  pub dropped_left : alone ≡ None → alone' ≡ Some Right → CountRose d left left'
  pub both_failed : alone ≡ None → OnErr result (alone' ≡ Some Left)
  pub stays_left : alone ≡ Some Left → alone' ≡ Some Left
  pub stays_right : alone ≡ Some Right → alone' ≡ Some Right
  pub only_left : alone ≡ Some Left → right' ≡ right
  pub only_right : alone ≡ Some Right → left' ≡ left

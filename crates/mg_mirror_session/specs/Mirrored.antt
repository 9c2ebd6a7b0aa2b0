-- Two disks as one, as the promise speaks of them: what a mirror of them shows, in the words of `mg_mirror`.
use Rattle.std.specs.Prelude.{ℕ, ◌&&◌, Option}
use Rattle.{mg_faults.specs.Faults.is_last, mg_mirror.specs.{Mirror.{seen_of, two_times}, declared.mirror.Side.Side}}
use Rattle.mg_disk.specs.declared.disk.Disk as disks

-- Two disks of which one is made.
pub record Two (D E : Type 0) : Type 0 where
  pub left : D
  pub right : E
  -- how many blocks the one has
  pub blocks : ℕ
  -- the one side in use, or none while both are
  pub alone : Option Side
  -- how many calls of the one failed
  pub failed : ℕ

-- the one disk: what reads of it give, what a stop may leave of it, and its count of faults
abbrev pub mirror : {D E : Type 0} → disks.Ghosts D → disks.Ghosts E → disks.Ghosts (Two D E)
mirror d e = record {
  block_count = λ m. m.blocks;
  seen = λ m. seen_of m.blocks m.alone (d.seen m.left) (e.seen m.right);
  tells_stops = λ m. d.tells_stops m.left && e.tells_stops m.right;
  time = λ m. two_times m.blocks m.alone (d.tells_stops m.left && e.tells_stops m.right) (d.time m.left) (e.time m.right);
  faults = λ m. m.failed;
  is_spent = λ m. is_last m.failed;
}

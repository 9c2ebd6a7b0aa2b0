-- What calls that only read leave, and a disk that is settled. Contracts of the layers above cite these words.
use Rattle.std.specs.Prelude.{◌≡◌, Option, Result, None, Some}
use Rattle.mg_disk.specs.{Disk.Image, Stops.{CountGoes, DiskCalls, DiskCallsBy, NothingPending, WritesNothing}}
use Rattle.mg_disk.specs.declared.disk.Disk.{Ghosts}

-- What reads give is told before and after and the two images are related, or it is told neither before nor after.
abbrev pub Becomes : (Image → Image → Type 0) → Option Image → Option Image → Type 0
Becomes R (Some old) (Some new) = R old new
Becomes R None None = Unit {0}
Becomes R _ _ = ⊥

-- the disk is settled at this image: reads give it, and a stop now leaves it and no other
pub record StandsAt {D : Type 0} (facts : Ghosts D) (disk : D) (image : Image) : Type 0 where
  pub told : facts.seen disk ≡ Some image
  pub settled : NothingPending facts disk

-- calls that only read
pub record OnlyReads {D T E : Type 0} (facts : Ghosts D) (old new : D) (result : Result T E) : Type 0 where
  pub writes : WritesNothing facts old new
  pub calls : DiskCalls facts old new result

-- the same if it failed in this case alone
pub record OnlyReadsBy {D : Type 0} (facts : Ghosts D) (old new : D) (failed : Type 0) : Type 0 where
  pub writes : WritesNothing facts old new
  pub calls : DiskCallsBy facts old new failed

-- the same, with nothing said of an answer
pub record OnlyRead {D : Type 0} (facts : Ghosts D) (old new : D) : Type 0 where
  pub writes : WritesNothing facts old new
  pub count : CountGoes facts old new
  pub blocks : facts.block_count new ≡ facts.block_count old

-- What a program did, from its words to its exit status: how a command ended, and that its disks were only read before it and after it.
use Rattle.std.specs.Prelude.{ℕ, ◌≡◌}
use Rattle.mg_disk.specs.{Stops.WritesNothing, declared.disk.Disk.Ghosts}

-- A command ended with some status, of which this holds, and the exit status is the number of that one.
pub record EndsAs {T : Type 0} (code_of : T → ℕ) (Did : T → Type 0) (code : ℕ) : Type 0 where
  pub status : T
  pub did : Did status
  pub is_code : code ≡ code_of status

-- This holds of a disk as it was at some time before, and nothing was written on it since.
pub record ThenReads {D : Type 0} (facts : Ghosts D) (Did : D → Type 0) (disk' : D) : Type 0 where
  pub left : D
  pub did : Did left
  pub writes : WritesNothing facts left disk'

-- Nothing was written on a disk until some time, and this holds of it as it was then.
pub record AfterReads {D : Type 0} (facts : Ghosts D) (disk : D) (Did : D → Type 0) : Type 0 where
  pub found : D
  pub writes : WritesNothing facts disk found
  pub did : Did found

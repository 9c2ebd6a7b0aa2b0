-- What is read of a volume, by calls that write nothing.
use Rattle.std.specs.{Option.ForSome, Prelude.{◌≡◌, ◌+◌, ◌<◌, ℕ, ◌≤◌, Option}}
use Rattle.{mg_disk.specs.{Disk.{Image, block_at}, declared.disk.Disk.Ghosts}, mg_model.specs.Words.and_then}

-- the contents that what reads give has
abbrev pub contents : {D : Type 0} → Ghosts D → (Image → Option Image) → D → Option Image
contents facts of disk = and_then (facts.seen disk) of

-- the blocks of the contents can be read
pub record CanRead {D : Type 0} (facts : Ghosts D) (need : ℕ) (Fits : Image → Type 0) (disk : D) : Type 0 where
  pub room : need ≤ facts.block_count disk
  pub fits : ForSome (facts.seen disk) Fits

-- this many blocks of the contents, from the first one on, are at hand
abbrev pub IsRun : ℕ → ℕ → Image → Image → Type 0
IsRun first count blocks r = (k : ℕ) → k < count → block_at r (first + k) ≡ block_at blocks k

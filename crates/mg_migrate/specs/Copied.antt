-- What a disk holds while the contents of another one are copied to it, and then.
use Rattle.std.specs.{Option.ForSome, Prelude.{◌≡◌, ◌≢◌, ◌⊎◌, ℕ, ◌<◌, ◌≤◌, length, Option, Some, None, IsSomeAnd}}
use Rattle.mg_disk.specs.{Disk.{Image, InRange}, Stops.NothingPending, declared.disk.Disk.Ghosts}
use Rattle.{mg_layout.specs.MayFormat.opened, mg_model.specs.{Layout.gate_open, Replay.block_of, Volume.NotVolume}}
use Rattle.mg_model.specs.Volume.{gate_byte, volume}

-- the blocks after the gate and below n are those of the contents
abbrev pub AreCopied : ℕ → Image → Image → Type 0
AreCopied n contents c = (i : ℕ) → 1 ≤ i → i < n → block_of c i ≡ block_of contents i

-- this many blocks from the first one on are those of the contents
abbrev pub AreSame : ℕ → ℕ → Image → Image → Type 0
AreSame first count contents c = (i : ℕ) → InRange first count i → block_of c i ≡ block_of contents i

-- its gate is open, and the blocks after it and below n are those of the contents
pub record IsCopy (n : ℕ) (contents c : Image) : Type 0 where
  pub long : n ≤ length c
  pub opened : gate_byte c ≡ gate_open
  pub blocks : AreCopied n contents c

-- no volume, what the blocks after the gate spelled before, or a copy
abbrev pub MayCopy : ℕ → Image → Image → Image → Type 0
MayCopy n image contents c = (volume c ≡ NotVolume) ⊎ ((volume c ≡ volume (opened image)) ⊎ IsCopy n contents c)

-- its gate is closed, so it is no volume
pub record IsClosed (c : Image) : Type 0 where
  pub gate : gate_byte c ≢ gate_open
  pub none : volume c ≡ NotVolume

-- the gate of a disk is closed, in what reads give and in each image that a stop may leave
pub record StandsClosed {D : Type 0} (facts : Ghosts D) (disk : D) : Type 0 where
  pub reads : ForSome (facts.seen disk) IsClosed
  pub left : (c : Image) → (facts.time disk).left_since (facts.time disk).moment c → IsClosed c

-- reads give an image if they gave one before, and it has P
abbrev pub ReadsNow : (Image → Type 0) → Option Image → Option Image → Type 0
ReadsNow P None new = new ≡ None
ReadsNow P (Some image) new = IsSomeAnd new P

-- so it is of what reads give, and a stop leaves no image that has not P
pub record HoldsNow {D : Type 0} (facts : Ghosts D) (P : Image → Type 0) (old new : D) : Type 0 where
  pub reads : ReadsNow P (facts.seen old) (facts.seen new)
  pub left : (c : Image) → (facts.time new).left_since (facts.time new).moment c → P c

-- reads give a copy of these contents, and nothing is pending
pub record StandsCopied {D : Type 0} (facts : Ghosts D) (n : ℕ) (from : Option Image) (old new : D) : Type 0 where
  pub reads : ForSome from (λ r. ReadsNow (IsCopy n r) (facts.seen old) (facts.seen new))
  pub settled : NothingPending facts new

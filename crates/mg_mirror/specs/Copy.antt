-- The first blocks of one image on another, block 0 last.
use Rattle.std.specs.{Option.ForSome, Prelude.{◌≡◌, ◌⊎◌, ◌<◌, ◌≤◌, ℕ, Bool, false, IsTrue, is_some, length}}
use Rattle.std.specs.Prelude.{slice_index, take, Option, Result, IfOk, OnErr}
use Rattle.mg_disk.specs.{Disk.{HasBlocks, Image, InRange, SameBut, block_at, only_place}, Stops.{FromLeft, Leaves}}
use Rattle.mg_disk.specs.{Stops.{NothingPending, WritesNothing, CountGoes, CountRose}, declared.disk.Disk.Ghosts}

-- two disks have n blocks, and these, no more than n, are the first ones of the one that is copied
pub record CanCopy {D E : Type 0} (d : Ghosts D) (e : Ghosts E) (n : ℕ) (first : Image) (from : D) (to : E) : Type 0 where
  pub from_long : n ≤ d.block_count from
  pub to_long : n ≤ e.block_count to
  pub are_first : ForSome (d.seen from) (HasBlocks 0 first)
  pub few : length first ≤ n

-- the second has the first n blocks of the first, if both are told
abbrev pub IsCopied : ℕ → Option Image → Option Image → Type 0
IsCopied n from to = ForSome from (λ x. ForSome to (λ y. take n y ≡ take n x))

-- an image has this many blocks of this one, from the first one on
abbrev pub AreSame : ℕ → ℕ → Image → Image → Type 0
AreSame first count x c = (i : ℕ) → InRange first count i → block_at c i ≡ block_at x i

-- an image has the blocks of this one from a place on, up to n
abbrev pub AreFrom : ℕ → ℕ → Image → Image → Type 0
AreFrom start n x c = (i : ℕ) → start ≤ i → i < n → block_at c i ≡ block_at x i

-- the first byte of block 0
abbrev pub first_byte : Image → ℕ
first_byte image = slice_index (block_at image 0) 0

-- What a stop may leave, in its first n blocks, of a disk that held an image while those of x are copied to it. All but block 0 is as it
-- was; or block 0 is closed, its first byte being 0; or all but block 0 is as in x.
abbrev pub MayCopy : ℕ → Image → Image → Image → Type 0
MayCopy n image x c = SameBut (only_place 0) (take n image) (take n c) ⊎ ((first_byte c ≡ 0) ⊎ SameBut (only_place 0) (take n x) (take n c))

-- At each moment while the first n blocks of what a disk gives are copied to this one, whatever was pending on it, an image that a stop
-- may leave of it comes so from one that a stop might have left before.
abbrev pub LeavesCopy : {E : Type 0} → Ghosts E → ℕ → Option Image → E → E → Type 0
LeavesCopy e n from to to' = ForSome from (λ x. Leaves e to to' (FromLeft e to (λ image. MayCopy n image x)))

-- Calls that read one disk and write on another.
pub record CopySteps {D E : Type 0} (d : Ghosts D) (e : Ghosts E) (from from' : D) (to to' : E) : Type 0 where
  pub reads : WritesNothing d from from'
  pub from_blocks : d.block_count from' ≡ d.block_count from
  pub to_blocks : e.block_count to' ≡ e.block_count to
  pub from_tells : d.tells_stops from' ≡ d.tells_stops from
  pub to_tells : e.tells_stops to' ≡ e.tells_stops to
  pub from_count : CountGoes d from from'
  pub to_count : CountGoes e to to'

-- The same with what they answer: Ok says whether the other disk took all of it, and an error says that the disk that is read failed.
pub record CopyCalls {D E F : Type 0} (d : Ghosts D) (e : Ghosts E) (from from' : D) (to to' : E) (result : Result Bool F) : Type 0 where
  pub steps : CopySteps d e from from' to to'
  pub to_cause : IfOk result (λ good. good ≡ false → CountRose e to to')
  pub cause : OnErr result (CountRose d from from')

-- A disk's first n blocks were copied to another disk, and nothing was written on the disk that is read. Ok says whether the copy
-- is complete, and false that the other disk failed; an error, that the disk that is read did.
pub record Copies {D E F : Type 0} (d : Ghosts D) (e : Ghosts E) (n : ℕ) (from from' : D) (to to' : E) (result : Result Bool F) : Type 0 where
  pub copied : IfOk result (λ good. IsTrue good → IsCopied n (d.seen from) (e.seen to'))
  pub settled : IfOk result (λ good. IsTrue good → NothingPending e to')
  pub leaves : LeavesCopy e n (d.seen from) to to'
  pub to_told : is_some (e.seen to') ≡ is_some (e.seen to)
  pub calls : CopyCalls d e from from' to to' result

-- What a `Fuse` shows.
use Rattle.std.specs.Prelude.{◌≡◌, ◌-◌, ◌<◌, ◌≤◌, ℕ, length, take, drop, Result, IsErr, OnErr}
use Rattle.mg_disk.specs.{Calls.{IsReadRun, IsWriteRun}, Disk.Image, Stops.CountRose, declared.disk.Disk.Ghosts}
use Rattle.mg_disk.specs.declared.fuse.Fuse.{Fuse}

-- the disk that it passes calls on to
abbrev pub inner_of : {D : Type 0} → Fuse D → D
inner_of fuse = fuse.inner

-- how many calls it will still pass
abbrev pub calls_left : {D : Type 0} → Fuse D → ℕ
calls_left fuse = fuse.calls_left

-- This number of calls. If at least that many are left, they are passed on, and then a fault is the inner disk's; else the
-- run is refused. If none is left, the inner disk is not called.
pub record Burns {D T E : Type 0} (calls : ℕ) (facts : Ghosts D) (old new : Fuse D) (result : Result T E) : Type 0 where
  pub spent : calls_left new ≡ calls_left old - calls
  pub passed : calls ≤ calls_left old → OnErr result (CountRose facts (inner_of old) (inner_of new))
  pub refused : calls_left old < calls → IsErr result
  pub untouched : calls_left old ≡ 0 → inner_of new ≡ inner_of old

-- A run of writes, passed on as one run. If enough calls are left, it is a run of all blocks, and its answer is the inner
-- disk's. Else it is a run of the first blocks, one for each call that is left.
pub record PassesWrites {D T E : Type 0} (facts : Ghosts D) (old new : Fuse D) (first : ℕ) (from : Image) (result : Result T E) : Type 0 where
  pub whole : 0 < length from → length from ≤ calls_left old → IsWriteRun facts (inner_of old) (inner_of new) first from result
  pub part : 0 < calls_left old → calls_left old < length from → (made : Result T E) × IsWriteRun facts (inner_of old) (inner_of new) first (take (calls_left old) from) made

-- A run of reads into `out`, in the same way. The blocks of `out` past those that were read stay as they were.
pub record PassesReads {D T E : Type 0} (facts : Ghosts D) (old new : Fuse D) (first : ℕ) (before out : Image) (result : Result T E) : Type 0 where
  pub whole : 0 < length before → length before ≤ calls_left old → IsReadRun facts (inner_of old) (inner_of new) first (length before) out result
  pub part : 0 < calls_left old → calls_left old < length before
      → (made : Result T E) × IsReadRun facts (inner_of old) (inner_of new) first (calls_left old) (take (calls_left old) out) made
  pub rest : calls_left old < length before → drop (calls_left old) out ≡ drop (calls_left old) before

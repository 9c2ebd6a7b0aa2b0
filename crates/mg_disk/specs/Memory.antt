-- What a `MemDisk` shows, and how it numbers its calls.
use Rattle.std.{proofs.Common.{sym, subst, arith}, specs.Prelude.{◌≡◌, ◌⊎◌, ◌↔◌, ◌+◌, ◌<◌, ◌≤◌, ℕ, List, length}}
use Rattle.std.specs.Prelude.{Contains, Result, IsErr, OnErr, OnOk}
use Rattle.mg_disk.specs.{Blocks.{IsGated, gates_block}, Disk.{Image, InRange, SameBut, At, block_at}, Held.MayLeave}
use Rattle.mg_disk.specs.{Held.LeftIn, HeldLemmas.since, PlaceLemmas.same_as, declared.memory.Counts.Counts}
use Rattle.mg_disk.specs.declared.memory.{Left.{Left, TheVariants.{Old, New, Gates}}, MemDisk.MemDisk}

-- the calls that were made and recorded
abbrev pub counts_of : MemDisk → Counts
counts_of disk = disk.made

-- the number of the next call: how many were recorded
abbrev pub calls_made : MemDisk → ℕ
calls_made disk = disk.made.reads + disk.made.writes + disk.made.syncs

abbrev pub room_of : MemDisk → ℕ
room_of disk = disk.room

-- the numbers of the calls that fail
abbrev pub fails_of : MemDisk → List ℕ
fails_of disk = disk.fails.items

-- what reads give
abbrev pub content_of : MemDisk → Image
content_of disk = disk.content.items

-- what the last good sync left
abbrev pub synced_of : MemDisk → Image
synced_of disk = disk.synced.items

-- the blocks written since then
abbrev pub unsynced_of : MemDisk → List ℕ
unsynced_of disk = disk.touched.items

-- a new disk, with no call yet
pub record IsFresh (disk : MemDisk) (room : ℕ) (fails : List ℕ) : Type 0 where
  pub room_is : room_of disk ≡ room
  pub fails_are : fails_of disk ≡ fails
  pub counts : counts_of disk ≡ record { reads = 0; writes = 0; syncs = 0 }

-- one more read, write or sync
abbrev pub one_read : Counts → Counts
one_read made = record made { reads = made.reads + 1 }

abbrev pub one_write : Counts → Counts
one_write made = record made { writes = made.writes + 1 }

abbrev pub one_sync : Counts → Counts
one_sync made = record made { syncs = made.syncs + 1 }

-- a call: it fails exactly by its number, and past the room it changes nothing but the count of faults
pub record Numbered {T E : Type 0} (old new : MemDisk) (made : Counts) (result : Result T E) : Type 0 where
  pub exact : IsErr result ↔ ((room_of old ≤ calls_made old) ⊎ Contains (fails_of old) (calls_made old))
  pub recorded : calls_made old < room_of old → counts_of new ≡ made
  pub past : room_of old ≤ calls_made old → new ≡ record old { count = new.count }
  pub same_room : room_of new ≡ room_of old
  pub same_fails : fails_of new ≡ fails_of old

-- n more reads or writes
abbrev pub more_reads : Counts → ℕ → Counts
more_reads made n = record made { reads = made.reads + n }

abbrev pub more_writes : Counts → ℕ → Counts
more_writes made n = record made { writes = made.writes + n }

-- the call of this number fails
abbrev pub FailsAt : MemDisk → ℕ → Type 0
FailsAt disk number = (room_of disk ≤ number) ⊎ Contains (fails_of disk) number

-- Of a run of calls this is the first that fails, and the last that is made; it is recorded if it is not past the room.
pub record FailsFirst (old new : MemDisk) (made : ℕ → Counts) (calls k : ℕ) : Type 0 where
  pub one : k < calls
  pub fails : FailsAt old (calls_made old + k)
  pub passed : (j : ℕ) → j < k → FailsAt old (calls_made old + j) → ⊥
  pub recorded : calls_made old + k < room_of old → counts_of new ≡ made (k + 1)
  pub past : room_of old ≤ calls_made old + k → counts_of new ≡ made k

-- Several calls of one kind, one after the other: each has a number of its own, and the run ends with the first that fails.
pub record NumberedRun {T E : Type 0} (calls : ℕ) (old new : MemDisk) (made : ℕ → Counts) (result : Result T E) : Type 0 where
  pub all : OnOk result ((counts_of new ≡ made calls) × ((j : ℕ) → j < calls → FailsAt old (calls_made old + j) → ⊥))
  pub first : OnErr result ((k : ℕ) × FailsFirst old new made calls k)
  pub same_room : room_of new ≡ room_of old
  pub same_fails : fails_of new ≡ fails_of old

-- A run of writes that ended with block k of `from`, whose call failed. The blocks before it are written. Its own place
-- holds gates, or, past the room, what it held before. Every other block is as it was.
pub record IsCutAt (old new : MemDisk) (first : ℕ) (from : Image) (k : ℕ) : Type 0 where
  pub before : (j : ℕ) → j < k → block_at (content_of new) (first + j) ≡ block_at from j
  pub gates : calls_made old + k < room_of old → block_at (content_of new) (first + k) ≡ gates_block
  pub past : room_of old ≤ calls_made old + k → block_at (content_of new) (first + k) ≡ block_at (content_of old) (first + k)
  pub elsewhere : SameBut (InRange first (k + 1)) (content_of old) (content_of new)

may_be : (disk : MemDisk) (image : Image) → SameBut (Contains disk.touched.items) disk.synced.items image → LeftIn disk.first.items disk.events.items (At (length disk.events.items)) image
may_be disk image same = since disk.first.items disk.events.items (length disk.events.items) image (omega arith) (subst (λ h. MayLeave h image) (sym disk.held) same)

-- what a stop leaves: the blocks written since the last good sync as they were, as they are, or with gates
abbrev pub IsLeft : Left → MemDisk → Image → Type 0
IsLeft Old disk image = image ≡ synced_of disk
IsLeft New disk image = image ≡ content_of disk
IsLeft Gates disk image = IsGated (unsynced_of disk) (synced_of disk) image

-- it is one of the images that a stop may leave
pub left_may : (left : Left) (disk : MemDisk) (image : Image) → IsLeft left disk image → LeftIn disk.first.items disk.events.items (At (length disk.events.items)) image
left_may Old disk image is = may_be disk image (same_as (Contains disk.touched.items) disk.synced.items image is)
left_may New disk image is = may_be disk image (subst (SameBut (Contains disk.touched.items) disk.synced.items) (sym is) disk.pending)
left_may Gates disk image is = may_be disk image is.elsewhere

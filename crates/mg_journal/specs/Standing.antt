-- When a store stands on a disk, and what a commit may leave.
use Rattle.std.specs.{Option.ForSome, Prelude.{◌≡◌, ◌≢◌, ◌⊎◌, ◌+◌, ◌≤◌, ◌<◌, if◌then◌else◌, nat_lt, ℕ, zero, suc, Bool}}
use Rattle.std.specs.Prelude.{true, false, List, [], Some}
use Rattle.mg_disk.specs.{Disk.{Image, SameBut}, Stops.NothingPending, declared.disk.Disk.Ghosts}
use Rattle.mg_journal.specs.{Contents.{InJournal, NewContents, SameContents}, Held.Store, JournalLemmas.open_writes}
use Rattle.{mg_journal.specs.{JournalLemmas.replay-some, Looked.Fits}, mg_model.specs.Layout.globals_block}
use Rattle.mg_model.specs.{Layout.segment_count, Replay.{is_open, replay, written}}

-- how many blocks the volume has
abbrev pub total_of : Store → ℕ
total_of store = store.total

-- whether it may still commit
abbrev pub is_live : Store → Bool
is_live store = store.live

-- no segment is open
abbrev pub AllClosed : Image → Type 0
AllClosed image = (s : ℕ) → s < segment_count → is_open image s ≡ false

-- the first `opened` segments are open and no others, the journal can be replayed, and the table has the newest body of
-- each block that they name
pub record HoldsOpen (total opened : ℕ) (table : List (ℕ × ℕ)) (image : Image) : Type 0 where
  pub gates : (s : ℕ) → s < segment_count → is_open image s ≡ nat_lt s opened
  pub fits : Fits (record { total = total; table = table }) image

-- a store fits an image if the open segments are those that it holds
unfoldable pub IsFitting : Store → Image → Type 0
IsFitting store image = HoldsOpen store.total store.opened store.table image

-- the volume is on the disk, nothing is pending, and the store fits what reads give
pub record Stands {D : Type 0} (facts : Ghosts D) (store : Store) (disk : D) : Type 0 where
  pub journal : globals_block ≤ total_of store
  pub room : total_of store ≤ facts.block_count disk
  pub settled : NothingPending facts disk
  pub fits : ForSome (facts.seen disk) (IsFitting store)

-- so it stands, and it may commit
pub record CanCommit {D : Type 0} (facts : Ghosts D) (store : Store) (disk : D) : Type 0 where
  pub live : is_live store ≡ true
  pub stands : Stands facts store disk

-- a store of so many blocks just after it was opened: it can commit, and no segment is open
pub record IsOpened {D : Type 0} (facts : Ghosts D) (blocks : ℕ) (store : Store) (disk : D) : Type 0 where
  pub stands : Stands facts store disk
  pub live : is_live store ≡ true
  pub total : total_of store ≡ blocks
  pub closed : ForSome (facts.seen disk) AllClosed

-- the store of the same volume, as live as before
pub record SameVolume (old new : Store) : Type 0 where
  pub live : is_live new ≡ is_live old
  pub total : total_of new ≡ total_of old

-- how many segments are open before and after room was made for one more
pub record HasRoom (old new : ℕ) : Type 0 where
  pub some : new < segment_count
  pub first : old ≡ segment_count → new ≡ 0

-- the contents of c are those of a, or those with these writes over them
abbrev pub OldOrNew : ℕ → List (ℕ × List ℕ) → Image → Image → Type 0
OldOrNew total writes a c = SameContents total a c ⊎ NewContents total a writes c

-- how many segments are open, from segment s on, and in all
abbrev pub open_since : Image → ℕ → ℕ → ℕ
open_since image s zero = 0
open_since image s (suc n) = (if is_open image s then 1 else 0) + open_since image (s + 1) n

abbrev pub open_count : Image → ℕ
open_count image = open_since image 0 segment_count

-- what a commit of some writes does: if a segment was closed, one more is open and no block after the journal has changed;
-- when all were open, one is
pub record IsLate (a b : Image) : Type 0 where
  pub more : open_count a < segment_count → (open_count b ≡ open_count a + 1) × SameBut InJournal a b
  pub again : open_count a ≡ segment_count → open_count b ≡ 1

-- b has the contents of a with these writes over them, and if there are any it is as a commit leaves it
pub record IsCommitted (total : ℕ) (writes : List (ℕ × List ℕ)) (a b : Image) : Type 0 where
  pub contents : NewContents total a writes b
  pub late : writes ≢ [] → IsLate a b

-- when a store fits, the journal can be replayed
pub fitting_replays : (store : Store) (image : Image) → IsFitting store image → (r : Image) × (replay image (total_of store) ≡ Some r)
unfolding IsFitting
fitting_replays store image fits = (written image (open_writes image), replay-some store.total image fits.fits.fit)

pub fits_held : (store : Store) (image : Image) → HoldsOpen store.total store.opened store.table image → IsFitting store image
unfolding IsFitting
fits_held store image held = held

pub held_fits : (store : Store) (image : Image) → IsFitting store image → HoldsOpen store.total store.opened store.table image
unfolding IsFitting
held_fits store image fits = fits

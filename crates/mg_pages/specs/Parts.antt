-- What the parts of a change of pages do, over the lists that they are given.
use Rattle.std.specs.{List.{list_any, position}, Option.ForSome, Prelude.{◌≡◌, ◌⊎◌, ◌+◌, ◌/◌, ◌≤◌, ◌<◌, ◌==◌, ℕ, true}}
use Rattle.std.specs.Prelude.{false, List, [], length, replicate, slice_set, Option, Result, Some}
use Rattle.mg_disk.specs.{Disk.{Image, block_at}, Reads.OnlyReads, declared.disk.Disk.Ghosts}
use Rattle.mg_journal.specs.{Contents.names, Held.Store, Staged.{are_once, staged}, Standing.Stands}
use Rattle.mg_model.specs.{Bytes.block_words, Layout.{first_frame, table_block}, Replay.{homes_fit, written}}
use Rattle.mg_pages.specs.{Entries.HoldsEntries, Kept.AreKept, Meaning.replayed, declared.blocks.Blocks.Blocks}

-- the blocks that an image will have once these writes are committed
abbrev pub coming_of : Store → List (ℕ × List ℕ) → Image → Image
coming_of store writes image = written (replayed store.total image) writes

-- the journal is as it was, and what is kept are blocks of the contents where they were
pub record KeepsMore (told : Option Image) (first : ℕ) (old new : Blocks) : Type 0 where
  pub store : new.store ≡ old.store
  pub kept : ForSome told (λ image. AreKept first (replayed old.store.total image) old.kept → AreKept first (replayed old.store.total image) new.kept)

-- blocks of the contents were read: the journal stands on the disk as it is now, from whatever number on blocks are kept
pub record LooksAt {D T E : Type 0} (facts : Ghosts D) (old new : Blocks) (before after : D) (result : Result T E) : Type 0 where
  pub keeps : (first : ℕ) → KeepsMore (facts.seen before) first old new
  pub stands : Stands facts new.store after
  pub reads : OnlyReads facts before after result

-- a commit was made: the journal stands on the disk as it is now, nothing is staged, and of blocks from this number on what was written is kept
pub record TakesOver {D : Type 0} (facts : Ghosts D) (first : ℕ) (old new : Blocks) (now : D) : Type 0 where
  pub stands : Stands facts new.store now
  pub staged : new.writes ≡ []
  pub kept : (r : Image) → old.store.total ≤ length r → AreKept first r old.kept → AreKept first (written r old.writes) new.kept

-- one block more is staged
pub record StagesBlock (old new : List (ℕ × List ℕ)) (block : ℕ) (is : List ℕ → Type 0) : Type 0 where
  pub bytes : List ℕ
  pub more : new ≡ staged old block bytes
  pub are : is bytes

-- a page is bound to the lowest free frame: the frame's block and the table's block are staged
pub record Begins (page : ℕ) (old_frames new_frames : List ℕ) (old_writes new_writes : List (ℕ × List ℕ)) (words : List ℕ → Type 0) : Type 0 where
  pub frame : ℕ
  pub lowest : position (λ entry. entry == 0) old_frames ≡ Some frame
  pub bound : new_frames ≡ slice_set old_frames frame page
  pub block : List ℕ
  pub are : words block
  pub entries : List ℕ
  pub hold : HoldsEntries new_frames (frame / 512) entries
  pub more : new_writes ≡ staged (staged old_writes (first_frame (length old_frames) + frame) block) (table_block + frame / 512) entries

-- a word is written into the block of a page that has a frame, if what the block holds is told
pub record ChangesWord (told : Option Image) (store : Store) (kept : List (ℕ × List ℕ)) (page index value : ℕ) (frames : List ℕ) (old new : List (ℕ × List ℕ)) : Type 0 where
  pub frame : ℕ
  pub holds : position (λ entry. entry == page) frames ≡ Some frame
  pub bytes : List ℕ
  pub more : new ≡ staged old (first_frame (length frames) + frame) bytes
  pub are : ForSome told (λ image. AreKept (first_frame (length frames)) (replayed store.total image) kept → block_words bytes ≡ slice_set (block_words (block_at (coming_of store old image) (first_frame (length frames) + frame))) index value)

-- or the page is bound first
pub record BindsWord (page index value : ℕ) (old_frames new_frames : List ℕ) (old new : List (ℕ × List ℕ)) : Type 0 where
  pub unbound : list_any (λ entry. entry == page) old_frames ≡ false
  pub begins : Begins page old_frames new_frames old new (λ bytes. block_words bytes ≡ slice_set (replicate 512 0) index value)

abbrev pub Stores : Option Image → Store → List (ℕ × List ℕ) → ℕ → ℕ → ℕ → List ℕ → List ℕ → List (ℕ × List ℕ) → List (ℕ × List ℕ) → Type 0
Stores told store kept page index value old_frames new_frames old new =
    ((new_frames ≡ old_frames) × ChangesWord told store kept page index value old_frames old new) ⊎ BindsWord page index value old_frames new_frames old new

-- the first blocks of a frame table spell other frames: those of them that change are staged
pub record StagesTable (old_frames new_frames : List ℕ) (n : ℕ) (old new : List (ℕ × List ℕ)) : Type 0 where
  pub once : are_once new ≡ true
  pub least : length old ≤ length new
  pub few : length new ≤ length old + n
  pub still : (block : ℕ) → names old block ≡ true → names new block ≡ true
  pub homes : (total : ℕ) → table_block + n ≤ total → homes_fit total old ≡ true → homes_fit total new ≡ true
  pub apart : (r : Image) (block : ℕ) → (block < table_block) ⊎ (table_block + n ≤ block) → block_at (written r new) block ≡ block_at (written r old) block
  pub holds : (r : Image) (k : ℕ) → k < n → table_block + n ≤ length r → HoldsEntries old_frames k (block_at (written r old) (table_block + k)) → HoldsEntries new_frames k (block_at (written r new) (table_block + k))

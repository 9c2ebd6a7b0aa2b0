-- What the pages of a volume are, as functions of the value and an image. The layers above see these words by their names.
use Rattle.std.specs.{List.list_any, Option.{ForSome, option_map_or}, Prelude.{◌≡◌, ◌≢◌, ◌⊎◌, ◌+◌, ◌≤◌, ◌<◌, ◌==◌, ◌%◌}}
use Rattle.std.specs.Prelude.{◌^◌, ℕ, Bool, true, false, List, [], length, replicate, slice_set, Option, Result, Some}
use Rattle.std.specs.Prelude.{drop}
use Rattle.mg_disk.specs.{Disk.{Image, block_at}, Reads.OnlyReads, Stops.NothingPending, declared.disk.Disk.Ghosts}
use Rattle.{mg_journal.specs.{Contents.names, Held.Store, Staged.waiting}, mg_model.specs.Abbreviations.table_of}
use Rattle.mg_model.specs.{Abbreviations.whole_table, Bytes.are_zeros, Layout.{first_frame, globals_block, table_block}}
use Rattle.mg_model.specs.{Layout.total_blocks, Replay.{replay, written}, Tests.all_distinct, Volume.bound_pages}
use Rattle.{mg_model.specs.Volume.page_words, mg_pages.specs.{Committing.HasContents, Kept.AreKept}}
use Rattle.mg_pages.specs.declared.pages.Pages.{Pages}
use Rattle.mg_journal.specs.Standing as journal

-- the blocks of an image after replay
abbrev pub replayed : ℕ → Image → Image
replayed total image = option_map_or (λ (r : Image). r) (replay image total) image

-- how many blocks the volume has
unfoldable pub total_of : Pages → ℕ
total_of p = journal.total_of p.blocks.store

-- its journal
unfoldable pub store_of : Pages → Store
store_of p = p.blocks.store

-- how many frames it has
unfoldable pub frame_count : Pages → ℕ
frame_count p = length p.frames

-- the page that each frame holds, or 0
unfoldable pub table_in : Pages → List ℕ
table_in p = p.frames

-- the blocks that an image will have once what is staged is committed: those after replay, with the staged ones over them
unfoldable pub coming : Pages → Image → Image
coming p image = written (replayed (journal.total_of p.blocks.store) image) p.blocks.writes

-- the blocks that are staged, each with its bytes
unfoldable pub staged_in : Pages → List (ℕ × List ℕ)
staged_in p = p.blocks.writes

-- how many blocks are staged, and whether this one is
unfoldable pub staged_of : Pages → ℕ
staged_of p = length p.blocks.writes

unfoldable pub is_staged : Pages → ℕ → Bool
is_staged p block = names p.blocks.writes block

-- what waits for this block
unfoldable pub waiting_in : Pages → ℕ → Option (List ℕ)
waiting_in p block = waiting p.blocks.writes block

-- the frame blocks that are kept
unfoldable pub kept_in : Pages → List (ℕ × List ℕ)
kept_in p = p.blocks.kept

-- no commit has failed
unfoldable pub is_live : Pages → Bool
is_live p = journal.is_live p.blocks.store

-- how many words were read and written, modulo 2^64
unfoldable pub words_in : Pages → ℕ
words_in p = p.count

-- whether a frame holds this page
abbrev pub is_bound : Pages → ℕ → Bool
is_bound p page = list_any (λ entry. entry == page) (table_in p)

-- the words of a page
abbrev pub page_now : Pages → Image → ℕ → List ℕ
page_now p image page = page_words (coming p image) (frame_count p) (table_in p) page

-- the journal fits the image, what is coming spells the frame table that is held, and what is kept are blocks of the contents
pub record Spelled (p : Pages) (image : Image) : Type 0 where
  pub fitting : journal.IsFitting p.blocks.store image
  pub long : total_of p ≤ length image
  pub table : table_of (coming p image) (frame_count p) ≡ table_in p
  pub past : are_zeros (drop (frame_count p) (whole_table (coming p image) (frame_count p))) ≡ true
  pub kept : AreKept (first_frame (frame_count p)) (replayed (total_of p) image) (kept_in p)

unfoldable pub IsSpelledBy : Pages → Image → Type 0
IsSpelledBy p image = Spelled p image

-- the pages stand on the disk: nothing is pending, and they are what reads give and what is staged
pub record StandsOn {D : Type 0} (facts : Ghosts D) (p : Pages) (disk : D) : Type 0 where
  pub room : total_of p ≤ facts.block_count disk
  pub settled : NothingPending facts disk
  pub fits : ForSome (facts.seen disk) (λ image. IsSpelledBy p image)

-- so they stand, and a commit may be made
pub record CanCommit {D : Type 0} (facts : Ghosts D) (p : Pages) (disk : D) : Type 0 where
  pub live : is_live p ≡ true
  pub stands : StandsOn facts p disk

-- an image has the contents that were coming of another, and if something was staged it is as a commit leaves it
pub record IsCommitted (p : Pages) (image now : Image) : Type 0 where
  pub contents : HasContents (total_of p) (coming p image) now
  pub late : 0 < staged_of p → journal.IsLate image now

-- the same volume with the same pages bound, and as many words counted
pub record SamePages (old new : Pages) : Type 0 where
  pub total : total_of new ≡ total_of old
  pub frames : frame_count new ≡ frame_count old
  pub table : table_in new ≡ table_in old
  pub words : words_in new ≡ words_in old

-- the same volume, and as live
pub record SameShape (old new : Pages) : Type 0 where
  pub total : total_of new ≡ total_of old
  pub frames : frame_count new ≡ frame_count old
  pub live : is_live new ≡ is_live old

-- what every value keeps, on every disk
pub record IsKept (p : Pages) : Type 0 where
  pub some : 16 ≤ frame_count p
  pub few : frame_count p ≤ 65536
  pub size : total_of p ≡ total_blocks (frame_count p)
  pub long : length (table_in p) ≡ frame_count p
  pub distinct : all_distinct (bound_pages (table_in p)) ≡ true

-- nothing changed but the count of words
pub record Keeps (old new : Pages) : Type 0 where
  pub shape : SameShape old new
  pub coming : (image : Image) → coming new image ≡ coming old image
  pub table : table_in new ≡ table_in old
  pub writes : staged_in new ≡ staged_in old
  pub staged : staged_of new ≡ staged_of old
  pub each : (block : ℕ) → is_staged new block ≡ is_staged old block

-- what was staged still is, and at most `most` more blocks are
pub record StagesMore (most : ℕ) (old new : Pages) : Type 0 where
  pub least : staged_of old ≤ staged_of new
  pub staged : staged_of new ≤ staged_of old + most
  pub still : (block : ℕ) → is_staged old block ≡ true → is_staged new block ≡ true

-- words were read, and nothing else happened: the pages stand on the disk as it is now, and nothing was written
pub record Reads {D T E : Type 0} (facts : Ghosts D) (old new : Pages) (before after : D) (result : Result T E) : Type 0 where
  pub keeps : Keeps old new
  pub stands : StandsOn facts new after
  pub reads : OnlyReads facts before after result

-- a block between the journal and the frame table: a row of the volume's tables is in such a block
pub record IsRowBlock (block : ℕ) : Type 0 where
  pub low : globals_block ≤ block
  pub high : block < table_block

-- a block is staged with these bytes, and nothing else has changed
pub record StagesBlock (block : ℕ) (bytes : List ℕ) (old new : Pages) : Type 0 where
  pub coming : (image : Image) → coming new image ≡ slice_set (coming old image) block bytes
  pub table : table_in new ≡ table_in old
  pub shape : SameShape old new
  pub staged : StagesMore 1 old new
  pub here : is_staged new block ≡ true
  pub words : words_in new ≡ words_in old
  pub spelled : (image : Image) → IsSpelledBy old image → IsSpelledBy new image

-- a block that was staged is staged with these bytes, and nothing else has changed
pub record Restages (block : ℕ) (bytes : List ℕ) (old new : Pages) : Type 0 where
  pub waits : waiting_in new block ≡ Some bytes
  pub coming : (image : Image) → coming new image ≡ slice_set (coming old image) block bytes
  pub table : table_in new ≡ table_in old
  pub shape : SameShape old new
  pub staged : StagesMore 0 old new
  pub here : is_staged new block ≡ true
  pub words : words_in new ≡ words_in old
  pub spelled : (image : Image) → IsSpelledBy old image → IsSpelledBy new image

-- a word of a page was changed; the other pages, and all blocks before the frame table, are as they were
pub record SetsWord (old new : Pages) (image : Image) (page index value : ℕ) : Type 0 where
  pub this : page_now new image page ≡ slice_set (page_now old image page) index value
  pub others : (other : ℕ) → other ≢ 0 → other ≢ page → page_now new image other ≡ page_now old image other
  pub rows : (k : ℕ) → k < table_block → block_at (coming new image) k ≡ block_at (coming old image) k

-- no page is bound that was not, but this one
abbrev pub BindsOnly : ℕ → Pages → Pages → Type 0
BindsOnly page old new = (other : ℕ) → is_bound new other ≡ true → (other ≡ page) ⊎ (is_bound old other ≡ true)

-- What a store to a page leaves, whether it was made or failed: no page is bound but this one, at most two blocks more are staged,
-- the pages stand on the disk as it is now, and nothing was written.
pub record ServesPage {D T E : Type 0} (page : ℕ) (facts : Ghosts D) (old new : Pages) (before after : D) (result : Result T E) : Type 0 where
  pub binds : BindsOnly page old new
  pub shape : SameShape old new
  pub staged : StagesMore 2 old new
  pub stands : StandsOn facts new after
  pub reads : OnlyReads facts before after result

-- one word was read or written, and counted
pub record CountsOne (old new : Pages) (before now : ℕ) : Type 0 where
  pub words : words_in new ≡ (words_in old + 1) % 2 ^ 64
  pub ticks : now ≡ before + 1

-- this many were read, and counted
pub record CountsSome (n : ℕ) (old new : Pages) (before now : ℕ) : Type 0 where
  pub words : words_in new % 2 ^ 64 ≡ (words_in old + n) % 2 ^ 64
  pub ticks : now ≡ before + n

-- none was
pub record CountsNone (old new : Pages) (before now : ℕ) : Type 0 where
  pub words : words_in new ≡ words_in old
  pub ticks : now ≡ before

-- these entries, one a frame, are the frame table that a replayed image spells, and nothing follows its last entry
pub record HasTable (entries : List ℕ) (r : Image) : Type 0 where
  pub table : table_of r (length entries) ≡ entries
  pub past : are_zeros (drop (length entries) (whole_table r (length entries))) ≡ true

-- the frame table of a replayed image, with this number of frames, is one of a volume: no page occurs twice, and nothing follows its
-- last entry
pub record SpellsTable (frames : ℕ) (r : Image) : Type 0 where
  pub past : are_zeros (drop frames (whole_table r frames)) ≡ true
  pub distinct : all_distinct (bound_pages (table_of r frames)) ≡ true

-- nothing is staged, and no block is kept
pub record IsBare (p : Pages) : Type 0 where
  pub staged : staged_of p ≡ 0
  pub kept : kept_in p ≡ []

-- pages of a volume with this journal and so many frames, of which no word was counted, nothing is staged and no block is kept
pub record AreMade (store : Store) (frames : ℕ) (p : Pages) : Type 0 where
  pub same : store_of p ≡ store
  pub total : total_of p ≡ journal.total_of store
  pub count : frame_count p ≡ frames
  pub live : is_live p ≡ journal.is_live store
  pub bare : IsBare p
  pub words : words_in p ≡ 0
  pub coming : (image : Image) → coming p image ≡ replayed (journal.total_of store) image

-- nothing changed but which pages are bound
pub record OnlyBinds (old new : Pages) : Type 0 where
  pub coming : (image : Image) → coming new image ≡ coming old image
  pub store : store_of new ≡ store_of old
  pub shape : SameShape old new
  pub staged : staged_in new ≡ staged_in old
  pub words : words_in new ≡ words_in old

-- the pages of a range read as zeros; the other pages, and all blocks before the frame table, are as they were
pub record Releases (old new : Pages) (image : Image) (first pages : ℕ) : Type 0 where
  pub inside : (page : ℕ) → page ≢ 0 → first ≤ page → page < first + pages → page_now new image page ≡ replicate 512 0
  pub outside : (page : ℕ) → page ≢ 0 → (page < first) ⊎ (first + pages ≤ page) → page_now new image page ≡ page_now old image page
  pub rows : (k : ℕ) → k < table_block → block_at (coming new image) k ≡ block_at (coming old image) k

-- the pages of a range are bound no more, and no page is that was not
pub record Unbinds (first pages : ℕ) (old new : Pages) : Type 0 where
  pub inside : (page : ℕ) → page ≢ 0 → first ≤ page → page < first + pages → is_bound new page ≡ false
  pub outside : (page : ℕ) → page ≢ 0 → is_bound new page ≡ true → is_bound old page ≡ true

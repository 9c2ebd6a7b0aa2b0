-- What the volume of an image rests on once its journal is replayed: the blocks after the journal, and the first two.
use Rattle.std.proofs.{Common.{refl, sym, ap, subst, ◌∙◌, arith}, lemmas.Bool.{and_parts, eqb-true, le-leb, leb-true}}
use Rattle.std.{proofs.lemmas.Bool.Decides.nat_tests, specs.{Option.option_map_or, Prelude.{◌≡◌, ℕ, zero, suc, ◌+◌}}}
use Rattle.std.specs.Prelude.{◌/◌, ◌%◌, ◌<◌, ◌≤◌, ◌==◌, ◌&&◌, nat_le, Bool, true, List, [], ◌∷◌, ◌++◌, if◌then◌else◌}
use Rattle.std.specs.Prelude.{length, replicate, slice_index, Option, Some, None, position}
use Rattle.{mg_disk.specs.Disk.{Image, SameBut, SeenBut}, mg_journal.specs.Contents.{InJournal, SameContents}}
use Rattle.mg_model.specs.Abbreviations.{account_row_bytes, fitting, object_row_bytes, pages_words, table_entries}
use Rattle.mg_model.specs.{Abbreviations.{thread_row_bytes, whole_table}, Bytes.block_words, Layout.first_account_block}
use Rattle.mg_model.specs.Layout.{first_frame, first_object_block, first_thread_block, gate_block, gate_open}
use Rattle.mg_model.specs.Layout.{globals_block, super_block, table_block, table_blocks, total_blocks}
use Rattle.mg_model.specs.{Limits.{account_limit, thread_limit, object_limit}, Objects.{page_of, with_object}}
use Rattle.mg_model.specs.{Replay.{block_of, replay}, Settings.Settings, Spelling.{Spells, account_read, globals_read}}
use Rattle.mg_model.specs.{Spelling.{object_read, super_read, thread_read}, State.ObjectRow, Volume.{Damaged, Rows}}
use Rattle.mg_model.specs.Volume.{has_open_gate, live_rows, objects_spelled, page_words, replayed_volume, rows_of}
use Rattle.mg_model.specs.Volume.{state_spelled, volume, volume_behind, IsOpened, gate_byte}
use Rattle.mg_model.specs.VolumeLemmas.{live_rows-same, rows_from, state_with, table_short, volume-opened}
use Rattle.mg_pages.specs.{ComingLemmas.{length_replay, replay_low}, Committing.HasContents}
use Rattle.mg_rows.specs.Blocks.{account_in, object_in}

-- two images with the same blocks after the journal and below n
pub record AgreeBehind (n : ℕ) (a b : Image) : Type 0 where
  pub each : (k : ℕ) → globals_block ≤ k → k < n → block_of a k ≡ block_of b k

-- two images with the same blocks from one place to another
pub record AgreeIn (low high : ℕ) (a b : Image) : Type 0 where
  pub each : (k : ℕ) → low ≤ k → k < high → block_of a k ≡ block_of b k

-- an image with an open gate, a superblock that spells these settings, and as many blocks as they need
pub record IsSet (settings : Settings) (image : Image) : Type 0 where
  pub gated : has_open_gate image ≡ true
  pub super : super_read (block_of image super_block) ≡ Spells settings
  pub long : total_blocks settings.frames ≤ length image

pub same_behind : (n : ℕ) (a b : Image) → SameBut InJournal a b → AgreeBehind n a b
same_behind n a b same = record { each = λ k low high. sym (same.others k (λ inside. let below = inside.1 in omega arith)) }

table-same : (n : ℕ) (a b : Image) (block m : ℕ) → AgreeBehind n a b → globals_block ≤ block → block + m ≤ n → table_entries a block m ≡ table_entries b block m
table-same n a b block zero same low high = refl
table-same n a b block (suc m) same low high =
    ap (λ (bytes : List ℕ). block_words bytes ++ table_entries a (block + 1) m) (same.each block low (omega arith))
    ∙ ap (λ entries. block_words (block_of b block) ++ entries) (table-same n a b (block + 1) m same (omega arith) (omega arith))

-- the rows
pub accounts_within : (a b : Image) → AgreeIn first_account_block first_thread_block a b → live_rows (λ i. account_read (account_row_bytes a i)) 0 account_limit ≡ live_rows (λ i. account_read (account_row_bytes b i)) 0 account_limit
accounts_within a b same = live_rows-same (λ i. account_read (account_row_bytes a i)) (λ i. account_read (account_row_bytes b i)) 0 account_limit one
  where
    one : (i : ℕ) → 0 ≤ i → i < 0 + account_limit → account_read (account_row_bytes a i) ≡ account_read (account_row_bytes b i)
    one i low high =
        let place : first_account_block + i / 64 < first_thread_block = omega arith in
        ap (λ (block : List ℕ). account_in block (i % 64)) (same.each (first_account_block + i / 64) (omega arith) place)

pub threads_within : (a b : Image) → AgreeIn first_thread_block first_object_block a b → live_rows (λ i. thread_read (thread_row_bytes a i)) 0 thread_limit ≡ live_rows (λ i. thread_read (thread_row_bytes b i)) 0 thread_limit
threads_within a b same = live_rows-same (λ i. thread_read (thread_row_bytes a i)) (λ i. thread_read (thread_row_bytes b i)) 0 thread_limit one
  where
    one : (i : ℕ) → 0 ≤ i → i < 0 + thread_limit → thread_read (thread_row_bytes a i) ≡ thread_read (thread_row_bytes b i)
    one i low high = ap thread_read (same.each (first_thread_block + i) (omega arith) (omega arith))

pub objects_within : (a b : Image) → AgreeIn first_object_block table_block a b → live_rows (λ i. object_read (object_row_bytes a i)) 0 object_limit ≡ live_rows (λ i. object_read (object_row_bytes b i)) 0 object_limit
objects_within a b same = live_rows-same (λ i. object_read (object_row_bytes a i)) (λ i. object_read (object_row_bytes b i)) 0 object_limit one
  where
    one : (i : ℕ) → 0 ≤ i → i < 0 + object_limit → object_read (object_row_bytes a i) ≡ object_read (object_row_bytes b i)
    one i low high =
        let place : first_object_block + i / 4 < table_block = omega arith in
        ap (λ (block : List ℕ). object_in block (i % 4)) (same.each (first_object_block + i / 4) (omega arith) place)

module _ (a b : Image) (same : AgreeBehind table_block a b) where
  pub accounts-same : live_rows (λ i. account_read (account_row_bytes a i)) 0 account_limit ≡ live_rows (λ i. account_read (account_row_bytes b i)) 0 account_limit
  accounts-same = accounts_within a b (record { each = λ k low high. same.each k (omega arith) (omega arith) })

  pub threads-same : live_rows (λ i. thread_read (thread_row_bytes a i)) 0 thread_limit ≡ live_rows (λ i. thread_read (thread_row_bytes b i)) 0 thread_limit
  threads-same = threads_within a b (record { each = λ k low high. same.each k (omega arith) (omega arith) })

  pub objects-same : live_rows (λ i. object_read (object_row_bytes a i)) 0 object_limit ≡ live_rows (λ i. object_read (object_row_bytes b i)) 0 object_limit
  objects-same = objects_within a b (record { each = λ k low high. same.each k (omega arith) high })

-- and the table
module _ (frames : ℕ) (a b : Image) (same : AgreeBehind (first_frame frames) a b) where
  low : AgreeBehind table_block a b
  low = record { each = λ k above below. same.each k above (omega arith) }

  whole-same : whole_table a frames ≡ whole_table b frames
  whole-same = table-same (first_frame frames) a b table_block (table_blocks frames) same (omega arith) (omega arith)

  pub rows_behind : rows_of a frames ≡ rows_of b frames
  rows_behind =
      ap (λ counters. rows_from frames counters (live_rows (λ i. account_read (account_row_bytes a i)) 0 account_limit) (live_rows (λ i. thread_read (thread_row_bytes a i)) 0 thread_limit) (live_rows (λ i. object_read (object_row_bytes a i)) 0 object_limit) (whole_table a frames)) (ap globals_read (same.each globals_block (omega arith) (omega arith)))
      ∙ ap (λ accounts. rows_from frames (globals_read (block_of b globals_block)) accounts (live_rows (λ i. thread_read (thread_row_bytes a i)) 0 thread_limit) (live_rows (λ i. object_read (object_row_bytes a i)) 0 object_limit) (whole_table a frames)) (accounts-same a b low)
      ∙ ap (λ threads. rows_from frames (globals_read (block_of b globals_block)) (live_rows (λ i. account_read (account_row_bytes b i)) 0 account_limit) threads (live_rows (λ i. object_read (object_row_bytes a i)) 0 object_limit) (whole_table a frames)) (threads-same a b low)
      ∙ ap (λ objects. rows_from frames (globals_read (block_of b globals_block)) (live_rows (λ i. account_read (account_row_bytes b i)) 0 account_limit) (live_rows (λ i. thread_read (thread_row_bytes b i)) 0 thread_limit) objects (whole_table a frames)) (objects-same a b low)
      ∙ ap (λ whole. rows_from frames (globals_read (block_of b globals_block)) (live_rows (λ i. account_read (account_row_bytes b i)) 0 account_limit) (live_rows (λ i. thread_read (thread_row_bytes b i)) 0 thread_limit) (live_rows (λ i. object_read (object_row_bytes b i)) 0 object_limit) whole) whole-same

map_or-same : {T U : Type 0} (f g : T → U) (o : Option T) (d : U) → ((x : T) → o ≡ Some x → f x ≡ g x) → option_map_or f o d ≡ option_map_or g o d
map_or-same f g None d same = refl
map_or-same f g (Some x) d same = same x refl

position-below : (p : ℕ → Bool) (xs : List ℕ) (k : ℕ) → position p xs ≡ Some k → k < length xs
position-below p xs k is = grind (arith, nat_tests)

-- the frames
pub page_words_behind : (frames : ℕ) (a b : Image) (table : List ℕ) (page : ℕ) → AgreeBehind (total_blocks frames) a b → length table ≤ frames → page_words a frames table page ≡ page_words b frames table page
page_words_behind frames a b table page same few = at_place (position (λ entry. entry == page) table) (λ k is. position-below (λ entry. entry == page) table k is)
  where
    at_place : (place : Option ℕ) → ((k : ℕ) → place ≡ Some k → k < length table)
        → option_map_or (λ frame. block_words (block_of a (first_frame frames + frame))) place (replicate 512 0) ≡ option_map_or (λ frame. block_words (block_of b (first_frame frames + frame))) place (replicate 512 0)
    at_place None below = refl
    at_place (Some k) below = let l = below k refl in ap block_words (same.each (first_frame frames + k) (omega arith) (omega arith))

pub pages_words_behind : (frames : ℕ) (a b : Image) (table : List ℕ) (page n : ℕ) → AgreeBehind (total_blocks frames) a b → length table ≤ frames → pages_words a frames table page n ≡ pages_words b frames table page n
pages_words_behind frames a b table page zero same few = refl
pages_words_behind frames a b table page (suc n) same few =
    ap (λ words. words ++ pages_words a frames table (page + 1) n) (page_words_behind frames a b table page same few)
    ∙ ap (λ words. page_words b frames table page ++ words) (pages_words_behind frames a b table (page + 1) n same few)

objects_spelled_behind : (frames : ℕ) (a b : Image) (table : List ℕ) (rows : List (ℕ × ObjectRow)) → AgreeBehind (total_blocks frames) a b → length table ≤ frames → objects_spelled a frames table rows ≡ objects_spelled b frames table rows
objects_spelled_behind frames a b table [] same few = refl
objects_spelled_behind frames a b table ((place, row) ∷ rows) same few =
    ap (λ words. with_object (record { row = row; words = words }) (objects_spelled a frames table rows)) (pages_words_behind frames a b table (page_of row) row.pages same few)
    ∙ ap (λ objects. with_object (record { row = row; words = pages_words b frames table (page_of row) row.pages }) objects) (objects_spelled_behind frames a b table rows same few)

spelled_behind : (settings : Settings) (a b : Image) (rows : Rows) → AgreeBehind (total_blocks settings.frames) a b → length rows.table ≤ settings.frames
    → fitting rows (state_spelled a settings rows) ≡ fitting rows (state_spelled b settings rows)
spelled_behind settings a b rows same few =
    ap (λ objects. fitting rows (state_with settings rows objects)) (objects_spelled_behind settings.frames a b rows.table rows.objects same few)

-- Two images that agree after the journal spell the same.
pub replayed_same : (settings : Settings) (a b : Image) → AgreeBehind (total_blocks settings.frames) a b → replayed_volume settings a ≡ replayed_volume settings b
replayed_same settings a b same =
    let frames = settings.frames in
    let low : AgreeBehind (first_frame frames) a b = record { each = λ k low high. same.each k low (omega arith) } in
    map_or-same (λ rows. fitting rows (state_spelled a settings rows)) (λ rows. fitting rows (state_spelled b settings rows)) (rows_of a frames) Damaged
    (λ rows is. spelled_behind settings a b rows same (table_short a frames rows is))
    ∙ ap (λ rows. option_map_or (λ rows. fitting rows (state_spelled b settings rows)) rows Damaged) (rows_behind frames a b low)

pub opened : (image : Image) → has_open_gate image ≡ true → IsOpened image
opened image gated =
    let parts = and_parts (nat_le 2 (length image)) (gate_byte image == gate_open) gated in
    record { long = leb-true 2 (length image) parts.0; gate = eqb-true (gate_byte image) gate_open parts.1 }

-- Its volume is what its replay spells.
pub volume_of_replay : (settings : Settings) (image r : Image) → IsSet settings image → replay image (total_blocks settings.frames) ≡ Some r → volume image ≡ replayed_volume settings r
volume_of_replay settings image r is replayed =
    volume-opened image (opened image is.gated)
    ∙ ap (volume_behind image) is.super
    ∙ ap (λ t. if t then option_map_or (λ replayed. replayed_volume settings replayed) (replay image (total_blocks settings.frames)) Damaged else Damaged) (le-leb (total_blocks settings.frames) (length image) is.long)
    ∙ ap (λ replayed. option_map_or (λ replayed. replayed_volume settings replayed) replayed Damaged) replayed

-- it has the same settings if an image has the same first two blocks
pub set_as : (settings : Settings) (a b : Image) → length b ≡ length a → ((k : ℕ) → k < 2 → block_of b k ≡ block_of a k) → IsSet settings a → IsSet settings b
set_as settings a b long low is = record {
  gated = ap (λ n. nat_le 2 n && gate_byte b == gate_open) long ∙ ap (λ (block : List ℕ). nat_le 2 (length a) && slice_index block 0 == gate_open) (low gate_block (omega arith)) ∙ is.gated;
  super = ap super_read (low super_block (omega arith)) ∙ is.super;
  long = let l = is.long in omega arith;
}

outside : (k : ℕ) → k < 2 → InJournal k → ⊥
outside k low inside = let above = inside.0 in omega arith

-- when the replay of c is r, but for the journal, c has the settings of r
pub contents_set : (settings : Settings) (r c : Image) → IsSet settings r → HasContents (total_blocks settings.frames) r c → IsSet settings c
contents_set settings r c is has = at (replay c (total_blocks settings.frames)) refl has
  where
    at : (o : Option Image) → replay c (total_blocks settings.frames) ≡ o → SeenBut InJournal (Some r) o → IsSet settings c
    at None told same = absurd same
    at (Some s) told same =
        let low : (k : ℕ) → k < 2 → block_of c k ≡ block_of r k = λ k few. sym (replay_low (total_blocks settings.frames) c s k told (omega arith)) ∙ same.others k (outside k few) in
        let long : length c ≡ length r = sym (length_replay (total_blocks settings.frames) c s told) ∙ same.count in
        set_as settings r c long low is

-- and spells what r does
pub volume_of_contents : (settings : Settings) (r c : Image) → IsSet settings r → HasContents (total_blocks settings.frames) r c → volume c ≡ replayed_volume settings r
volume_of_contents settings r c is has = at (replay c (total_blocks settings.frames)) refl has
  where
    at : (o : Option Image) → replay c (total_blocks settings.frames) ≡ o → SeenBut InJournal (Some r) o → volume c ≡ replayed_volume settings r
    at None told same = absurd same
    at (Some s) told same =
        volume_of_replay settings c s (contents_set settings r c is has) told ∙ sym (replayed_same settings r s (same_behind (total_blocks settings.frames) r s same))

-- A replay has the settings of its image.
pub replay_set : (settings : Settings) (image r : Image) → IsSet settings image → replay image (total_blocks settings.frames) ≡ Some r → IsSet settings r
replay_set settings image r is replayed =
    set_as settings image r (length_replay (total_blocks settings.frames) image r replayed) (λ k few. replay_low (total_blocks settings.frames) image r k replayed (omega arith)) is

-- The same contents are the same volume, if the journal of one can be replayed.
pub volume_contents : (settings : Settings) (image r c : Image) → IsSet settings image → replay image (total_blocks settings.frames) ≡ Some r → SameContents (total_blocks settings.frames) image c → volume c ≡ volume image
volume_contents settings image r c is replayed same =
    let has : HasContents (total_blocks settings.frames) r c = (let P : Option Image → Type 0 = λ o. SeenBut InJournal o (replay c (total_blocks settings.frames)) in subst P replayed same) in
    volume_of_contents settings r c (replay_set settings image r is replayed) has ∙ sym (volume_of_replay settings image r is replayed)

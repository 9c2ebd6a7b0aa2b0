-- A block before the frame table is staged, and one part of the state with it.
use Rattle.{mg_disk.specs.Disk.Image, mg_model.specs.{Abbreviations.{account_row_bytes, object_row_bytes, thread_row_bytes}, Bytes.block_words}}
use Rattle.mg_model.specs.Layout.{first_account_block, first_frame, first_object_block, first_thread_block, globals_block, table_block}
use Rattle.mg_model.specs.{Limits.{account_limit, object_limit, thread_limit}, Objects.page_of, Replay.block_of, Spelling.account_read}
use Rattle.mg_model.specs.{Spelling.{globals_read, object_read, thread_read}, State.{Counters, ObjectRow}, Volume.{live_rows, object_spelled}}
use Rattle.{mg_model.specs.Volume.page_words, mg_pages.specs.{ComingLemmas.length_coming, Meaning.StagesBlock, declared.pages.Pages.Pages}}
use Rattle.{mg_rules.specs.RowsRead.placed_from, mg_volume.{proofs.Stages.same_changes, specs.{Changes.Changes, Contents.{AgreeIn, accounts_within}}}}
use Rattle.mg_volume.specs.{Contents.{objects_within, threads_within}, Held.VolumeHeld, Meaning.{IsSpelledBy, Spelled, now_of, threads_in}}
use Rattle.{mg_volume.specs.{PageWordLemmas.pages-same, Sound.all_spelled}, std.proofs.Common.{refl, ap, ◌∙◌, ⊎_elim, inl, inr, arith}}
use Rattle.std.{proofs.lemmas.List.{get_or-set_other, get_or-set_same}, specs.{Option.option_map_or, Prelude.{◌≡◌, ◌≢◌, ◌+◌, ◌≤◌, ◌<◌, ◌==◌, ◌⊎◌, ℕ}}}
use Rattle.std.specs.Prelude.{List, [], ◌∷◌, position, replicate, slice_set, Option, Some, None}
use Rattle.mg_pages.specs.SpelledLemmas as laws
use Rattle.mg_pages.specs.Meaning as pages

-- a block was staged: it is there, and the others are as they were
module _ (p q : Pages) (image : Image) (block : ℕ) (bytes : List ℕ) (staged : StagesBlock block bytes p q) where
  pub but_one : (k : ℕ) → k ≢ block → block_of (pages.coming q image) k ≡ block_of (pages.coming p image) k
  but_one k other = ap (λ i. block_of i k) (staged.coming image) ∙ get_or-set_other (pages.coming p image) block k bytes [] other

  pub but_block : (k : ℕ) → (k < block) ⊎ (block + 1 ≤ k) → block_of (pages.coming q image) k ≡ block_of (pages.coming p image) k
  but_block k out = but_one k (λ is. ⊎_elim (λ (low : k < block). omega arith) (λ (high : block + 1 ≤ k). omega arith) out)

  pub block_there : pages.IsSpelledBy p image → block < table_block → block_of (pages.coming q image) block ≡ bytes
  block_there fitting low =
      let long = length_coming p image fitting in
      let whole = laws.long_of p image fitting in
      let size = laws.size_of p image fitting in
      ap (λ i. block_of i block) (staged.coming image) ∙ get_or-set_same (pages.coming p image) block bytes [] (omega arith)

-- the tables that other blocks than these have
module _ (v : VolumeHeld) (p : Pages) (image : Image) (s : Spelled v image) (low high : ℕ) (same : (k : ℕ) → (k < low) ⊎ (high ≤ k) → block_of (pages.coming p image) k ≡ block_of (pages.coming v.pages image) k) where
  within : (from to : ℕ) → (to ≤ low) ⊎ (high ≤ from) → AgreeIn from to (pages.coming p image) (pages.coming v.pages image)
  within from to out = record { each = λ k above below. same k (⊎_elim (λ (a : to ≤ low). inl (omega arith)) (λ (b : high ≤ from). inr (omega arith)) out) }

  pub counters_stay : (globals_block < low) ⊎ (high ≤ globals_block) → globals_read (block_of (pages.coming p image) globals_block) ≡ Some v.counters
  counters_stay out = ap globals_read (same globals_block out) ∙ s.counters_are

  pub accounts_stay : (first_thread_block ≤ low) ⊎ (high ≤ first_account_block) → live_rows (λ i. account_read (account_row_bytes (pages.coming p image) i)) 0 account_limit ≡ Some (placed_from 0 v.accounts)
  accounts_stay out = accounts_within (pages.coming p image) (pages.coming v.pages image) (within first_account_block first_thread_block out) ∙ s.accounts_are

  pub threads_stay : (first_object_block ≤ low) ⊎ (high ≤ first_thread_block) → live_rows (λ i. thread_read (thread_row_bytes (pages.coming p image) i)) 0 thread_limit ≡ Some s.threads
  threads_stay out = threads_within (pages.coming p image) (pages.coming v.pages image) (within first_thread_block first_object_block out) ∙ s.threads_are

  pub objects_stay : (table_block ≤ low) ⊎ (high ≤ first_object_block) → live_rows (λ i. object_read (object_row_bytes (pages.coming p image) i)) 0 object_limit ≡ Some s.objects
  objects_stay out = objects_within (pages.coming p image) (pages.coming v.pages image) (within first_object_block table_block out) ∙ s.objects_are

-- The words of pages follow.
words_behind : (a b : Image) (frames : ℕ) (table : List ℕ) (page : ℕ) → ((k : ℕ) → table_block ≤ k → block_of a k ≡ block_of b k) → page_words a frames table page ≡ page_words b frames table page
words_behind a b frames table page same = held (position (λ entry. entry == page) table)
  where
    held : (frame : Option ℕ) → option_map_or (λ frame. block_words (block_of a (first_frame frames + frame))) frame (replicate 512 0) ≡ option_map_or (λ frame. block_words (block_of b (first_frame frames + frame))) frame (replicate 512 0)
    held None = refl
    held (Some k) = ap block_words (same (first_frame frames + k) (omega arith))

pub objects_behind : (a b : Image) (frames : ℕ) (table : List ℕ) (os : List (ℕ × ObjectRow)) → ((k : ℕ) → table_block ≤ k → block_of a k ≡ block_of b k) → all_spelled a frames table os ≡ all_spelled b frames table os
objects_behind a b frames table [] same = refl
objects_behind a b frames table (o ∷ os) same =
    ap (λ words. record { row = o.1; words = words } ∷ all_spelled a frames table os)
    (pages-same b a frames frames table table (page_of o.1) o.1.pages (λ k above below. words_behind a b frames table k same))
    ∙ ap (λ objects. object_spelled b frames table o.1 ∷ objects) (objects_behind a b frames table os same)

pub objects_apart : (r : Image) (block : ℕ) (bytes : List ℕ) (frames : ℕ) (table : List ℕ) (os : List (ℕ × ObjectRow)) → block < table_block → all_spelled (slice_set r block bytes) frames table os ≡ all_spelled r frames table os
objects_apart r block bytes frames table os low = objects_behind (slice_set r block bytes) r frames table os (λ k above. get_or-set_other r block k bytes [] (λ is. omega arith))

-- after a block was staged the objects are those that they were
pub staged_objects : (v : VolumeHeld) (p : Pages) (image : Image) (block : ℕ) (bytes : List ℕ) → block < table_block → pages.table_in p ≡ pages.table_in v.pages → pages.coming p image ≡ slice_set (pages.coming v.pages image) block bytes
    → all_spelled (pages.coming p image) v.settings.frames (pages.table_in p) v.objects ≡ all_spelled (pages.coming v.pages image) v.settings.frames (pages.table_in v.pages) v.objects
staged_objects v p image block bytes low table coming = grind (arith, objects_apart)

-- the counters
abbrev pub with_counters : VolumeHeld → Pages → Counters → VolumeHeld
with_counters v p counters = record v { counters = counters; pages = p }

module _ (v : VolumeHeld) (p : Pages) (counters : Counters) (bytes : List ℕ) (staged : StagesBlock globals_block bytes v.pages p) where
  spelled : ((image : Image) → Spelled v image → globals_read bytes ≡ Some counters) → (image : Image) → IsSpelledBy v image → IsSpelledBy (with_counters v p counters) image
  unfolding IsSpelledBy
  spelled read image is =
      let s : Spelled v image = is in
      let same = but_block v.pages p image globals_block bytes staged in
      record {
        fitting = staged.spelled image s.fitting;
        frames = staged.shape.frames ∙ s.frames;
        gated = s.gated;
        super = s.super;
        counters_are = ap globals_read (block_there v.pages p image globals_block bytes staged s.fitting (omega arith)) ∙ read image s;
        accounts_are = accounts_stay v p image s globals_block (globals_block + 1) same (inr (omega arith));
        threads = s.threads;
        threads_are = threads_stay v p image s globals_block (globals_block + 1) same (inr (omega arith));
        numbered = s.numbered;
        objects = s.objects;
        objects_are = objects_stay v p image s globals_block (globals_block + 1) same (inr (omega arith));
        ordered = s.ordered;
        kept = s.kept;
        is = s.is;
      }

  now : (image : Image) → now_of (with_counters v p counters) image ≡ record (now_of v image) { counters = counters }
  unfolding now_of threads_in
  now image = ap (λ objects. record (now_of v image) { counters = counters; objects = objects }) (staged_objects v p image globals_block bytes (omega arith) staged.table (staged.coming image))

  pub counters_changes : ((image : Image) → Spelled v image → globals_read bytes ≡ Some counters) → Changes 1 (λ state. record state { counters = counters }) (λ rows. rows) v (with_counters v p counters)
  counters_changes read = same_changes v (with_counters v p counters) 1 (λ state. record state { counters = counters }) refl refl staged.shape staged.words staged.staged (spelled read) now

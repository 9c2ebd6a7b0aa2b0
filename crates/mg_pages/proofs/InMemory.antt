-- The bytes of a frame's block that are in memory, or that were read, are those that are coming.
use Rattle.{mg_disk.specs.Disk.{Image, block_at}, mg_journal.specs.Staged.waiting, mg_model.specs.{Bytes.block_words, Layout.block_size}}
use Rattle.{mg_model.specs.{Layout.first_frame, RowLemmas.block_words-zeros}, mg_pages.proofs.{KeptWrites.kept-written, Opened.held-kept}}
use Rattle.mg_pages.{proofs.{PageWords.{page-in, page-none}, Staging.written-none}, specs.{ComingLemmas.length_replay, Kept.kept_at}}
use Rattle.mg_pages.specs.{Meaning.{IsSpelledBy, coming, frame_count, page_now, replayed, table_in, total_of}, SpelledLemmas.{replayed_is, replays}}
use Rattle.{mg_pages.specs.declared.pages.Pages.Pages, std.{proofs.Common.{sym, ap, ◌∙◌, arith}, specs.{List.position, Prelude.{◌≡◌, ◌+◌, ◌==◌}}}}
use Rattle.std.specs.Prelude.{◌≤◌, ℕ, List, ◌++◌, length, replicate, Some, None}

module _ (p : Pages) (image : Image) where
  -- what is kept, and what waits before it
  pub held-coming : IsSpelledBy p image → (block : ℕ) (bytes : List ℕ) → first_frame (length p.frames) ≤ block → kept_at (p.blocks.writes ++ p.blocks.kept) block ≡ Some bytes → bytes ≡ block_at (coming p image) block
  unfolding coming total_of IsSpelledBy
  held-coming is block bytes low found =
      let total = p.blocks.store.total in
      let r = replays p image is in
      let whole = ap (λ (i : Image). length i) (replayed_is total image r.0 r.1) ∙ length_replay total image r.0 r.1 in
      let long = is.long in
      kept-written (first_frame (length p.frames)) total (replayed total image) p.blocks.writes p.blocks.kept p.sound.once p.sound.homes (omega arith)
      (λ i b there from none. held-kept p image is i b there from) block bytes found low

  -- what is read where nothing waits
  pub read-coming : (block : ℕ) (bytes : List ℕ) → waiting p.blocks.writes block ≡ None → bytes ≡ block_at (replayed p.blocks.store.total image) block → bytes ≡ block_at (coming p image) block
  unfolding coming
  read-coming block bytes none read = read ∙ sym (written-none p.blocks.writes (replayed p.blocks.store.total image) block none)

  -- the words of the page that a frame holds, and of one that no frame holds
  pub page-held : (page frame block : ℕ) (bytes : List ℕ) → position (λ entry. entry == page) p.frames ≡ Some frame → block ≡ first_frame (length p.frames) + frame → bytes ≡ block_at (coming p image) block
      → block_words bytes ≡ page_now p image page
  unfolding frame_count table_in
  page-held page frame block bytes there at are =
      ap block_words (are ∙ ap (λ b. block_at (coming p image) b) at) ∙ sym (page-in (coming p image) (length p.frames) p.frames page frame there)

  pub page-zeros : (page : ℕ) (bytes : List ℕ) → position (λ entry. entry == page) p.frames ≡ None → bytes ≡ replicate block_size 0 → block_words bytes ≡ page_now p image page
  unfolding frame_count table_in
  page-zeros page bytes none zeros = ap block_words zeros ∙ block_words-zeros ∙ sym (page-none (coming p image) (length p.frames) p.frames page none)

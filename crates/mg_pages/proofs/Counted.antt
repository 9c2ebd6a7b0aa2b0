-- The same journal, the same frames and the same writes, whatever is kept and counted.
use Rattle.{mg_disk.specs.{Disk.Image, Stops.{CountRose, NothingPending}, declared.disk.Disk.Ghosts}, mg_journal.specs.{Contents.names, Held.Store}}
use Rattle.{mg_model.specs.{Layout.first_frame, Volume.page_words}, mg_pages.proofs.{Opened.{same-shape, stands-again}, Tables.spelled-new}}
use Rattle.mg_pages.specs.Meaning.{Keeps, Reads, ServesPage, StandsOn, coming, frame_count, is_staged, page_now, staged_in, staged_of, table_in}
use Rattle.{mg_pages.specs.{Parts.{KeepsMore, LooksAt, coming_of}, declared.pages.Pages.Pages}, std.proofs.Common.{ap, arith, inr, subst, ◌∙◌}}
use Rattle.std.specs.{List.list_any, Prelude.{◌≡◌, ◌==◌, ℕ, true, List, length, OnErr, Result}}

-- what is coming, and the words of a page, if the fields are told
module _ (q : Pages) (store : Store) (frames : List ℕ) (writes : List (ℕ × List ℕ)) (same_store : q.blocks.store ≡ store) (same_frames : q.frames ≡ frames) (same_writes : q.blocks.writes ≡ writes) where
  pub coming-as : (image : Image) → coming q image ≡ coming_of store writes image
  unfolding coming
  coming-as image = ap (λ s. coming_of s q.blocks.writes image) same_store ∙ ap (λ ws. coming_of store ws image) same_writes

  pub page-as : (image : Image) (page : ℕ) → page_now q image page ≡ page_words (coming_of store writes image) (length frames) frames page
  unfolding frame_count table_in
  page-as image page = ap (λ i. page_words i (length q.frames) q.frames page) (coming-as image) ∙ ap (λ fs. page_words (coming_of store writes image) (length fs) fs page) same_frames

module _ (p q : Pages) (store : q.blocks.store ≡ p.blocks.store) (writes : q.blocks.writes ≡ p.blocks.writes) (frames : q.frames ≡ p.frames) where
  pub keeps-alike : Keeps p q
  unfolding coming table_in staged_in staged_of is_staged
  keeps-alike = record {
    shape = same-shape p q store (ap (λ (xs : List ℕ). length xs) frames);
    coming = coming-as q p.blocks.store p.frames p.blocks.writes store frames writes;
    table = frames;
    writes = writes;
    staged = ap (λ (ws : List (ℕ × List ℕ)). length ws) writes;
    each = λ block. ap (λ ws. names ws block) writes;
  }

  pub stands-alike : {D : Type 0} (facts : Ghosts D) (disk disk' : D) → facts.seen disk' ≡ facts.seen disk → facts.block_count disk' ≡ facts.block_count disk → NothingPending facts disk'
      → KeepsMore (facts.seen disk) (first_frame (length p.frames)) p.blocks q.blocks → StandsOn facts p disk → StandsOn facts q disk'
  stands-alike facts disk disk' seen blocks settled keeps stands =
      stands-again facts p q disk disk' stands seen blocks settled store
      (λ image told. spelled-new p q image store (ap (λ (xs : List ℕ). length xs) frames) (λ holds. rw (frames, writes) holds) (keeps.kept image told))

  -- reads of blocks are reads of the pages
  pub reads-alike : {D T T' E E' : Type 0} (facts : Ghosts D) (disk disk' : D) (read : Result T E) (result : Result T' E') → LooksAt facts p.blocks q.blocks disk disk' read → OnErr result (CountRose facts disk disk') → StandsOn facts p disk → Reads facts p q disk disk' result
  reads-alike facts disk disk' read result looks cause stands = record {
    keeps = keeps-alike;
    stands = stands-alike facts disk disk' looks.reads.writes.same looks.reads.calls.blocks looks.stands.settled (looks.keeps (first_frame (length p.frames))) stands;
    reads = record { writes = looks.reads.writes; calls = record { count = looks.reads.calls.count; blocks = looks.reads.calls.blocks; cause = cause } };
  }

-- a store that failed read, and nothing else
pub served : {D T E : Type 0} (page : ℕ) (facts : Ghosts D) (p q : Pages) (disk disk' : D) (result : Result T E) → Reads facts p q disk disk' result → ServesPage page facts p q disk disk' result
served page facts p q disk disk' result reads =
    let keeps = reads.keeps in
    record {
      binds = λ other bound. inr (subst (λ table. list_any (λ entry. entry == other) table ≡ true) keeps.table bound);
      shape = keeps.shape;
      staged = record { least = omega arith; staged = omega arith; still = λ block is. keeps.each block ∙ is };
      stands = reads.stands;
      reads = reads.reads;
    }

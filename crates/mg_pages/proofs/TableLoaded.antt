-- The pages after their frame table was read.
use Rattle.{mg_disk.specs.{Disk.Image, declared.disk.Disk.Ghosts}, mg_model.specs.{Abbreviations.{table_of, whole_table}, Bytes.are_zeros}}
use Rattle.{mg_model.specs.{Tests.all_distinct, Volume.bound_pages}, mg_pages.{proofs.Made.made-spelled, specs.Meaning.{IsBare, SpellsTable}}}
use Rattle.mg_pages.specs.{Meaning.{StandsOn, frame_count, kept_in, replayed, staged_of, total_of}, declared.blocks.Blocks.Blocks}
use Rattle.{mg_pages.specs.declared.pages.Pages.Pages, std.{proofs.{Common.{sym, ap, ◌∙◌, arith}, lemmas.List.nil_from_length}, specs.Option.ForSome}}
use Rattle.std.specs.Prelude.{◌≡◌, ℕ, true, List, drop, length, Some}
use Rattle.mg_journal.specs.Standing as journal

-- the pages that the table has stand on the disk, if nothing was staged
pub stands-loaded : {D : Type 0} (facts : Ghosts D) (p q : Pages) (frames : List ℕ) (disk disk' : D) → q.blocks ≡ p.blocks → q.frames ≡ frames → length frames ≡ length p.frames
    → ForSome (facts.seen disk) (λ image. all_distinct (bound_pages (table_of (replayed p.blocks.store.total image) (length p.frames))) ≡ true → frames ≡ table_of (replayed p.blocks.store.total image) (length p.frames))
    → journal.Stands facts p.blocks.store disk' → facts.seen disk' ≡ facts.seen disk → ((now : Image) → facts.seen disk' ≡ Some now → length now ≡ facts.block_count disk')
    → IsBare p → ForSome (facts.seen disk) (λ image. SpellsTable (frame_count p) (replayed (total_of p) image)) → StandsOn facts q disk'
unfolding total_of frame_count staged_of kept_in
stands-loaded facts p q frames disk disk' blocks same_frames many loaded stands same counted bare spells =
    let total = ap (λ (b : Blocks). b.store.total) blocks in
    let room = stands.room in
    record {
      room = omega arith;
      settled = stands.settled;
      fits = λ image told.
          let tall = counted image told in
          let has = spells image (sym same ∙ told) in
          let is = loaded image (sym same ∙ told) has.distinct in
          made-spelled q p.blocks.store frames (ap (λ (b : Blocks). b.store) blocks) same_frames (ap (λ (b : Blocks). b.writes) blocks ∙ nil_from_length p.blocks.writes bare.staged) (ap (λ (b : Blocks). b.kept) blocks ∙ bare.kept)
          image (stands.fits image told) (omega arith) (record { table = ap (table_of (replayed p.blocks.store.total image)) many ∙ sym is; past = ap (λ n. are_zeros (drop n (whole_table (replayed p.blocks.store.total image) n))) many ∙ has.past });
    }

-- Pages that stand on a disk.
use Rattle.{mg_disk.specs.{Disk.Image, Stops.NothingPending, declared.disk.Disk.Ghosts}, mg_journal.specs.Held.Store}
use Rattle.{mg_model.specs.Layout.first_frame, mg_pages.specs.{Held.IsSound, Kept.AreKept, Meaning.{IsSpelledBy, SameShape, StandsOn, frame_count}}}
use Rattle.{mg_pages.specs.{Meaning.{is_live, kept_in, replayed, total_of}, declared.pages.Pages.Pages}, std.proofs.{Common.{ap, arith}, Props.props}}
use Rattle.std.specs.Prelude.{◌≡◌, length, Some}
use mathlib.Core.HLevel.{is_prop→PathP}
use Rattle.mg_journal.specs.Standing as journal

-- what is kept are blocks of the contents
pub held-kept : (p : Pages) (image : Image) → IsSpelledBy p image → AreKept (first_frame (length p.frames)) (replayed p.blocks.store.total image) p.blocks.kept
unfolding IsSpelledBy total_of frame_count kept_in
held-kept p image is = is.kept

-- values with the same fields are the same: they keep the same
pub same-pages : (p q : Pages) → q.blocks ≡ p.blocks → q.frames ≡ p.frames → q.near ≡ p.near → q.count ≡ p.count → q ≡ p
same-pages p q b f near n = λ i. record {
  blocks = b i;
  frames = f i;
  near = near i;
  count = n i;
  sound = is_prop→PathP (λ j. IsSound (b j).store.total (f j) (b j).writes) (λ j. hlevel props) q.sound p.sound i;
}

-- two values with the same journal and as many frames have the same shape
pub same-shape : (p q : Pages) → q.blocks.store ≡ p.blocks.store → length q.frames ≡ length p.frames → SameShape p q
unfolding total_of frame_count is_live
same-shape p q store many = record { total = ap (λ (s : Store). s.total) store; frames = many; live = ap (λ s. journal.is_live s) store }

-- the journal stands on the disk on which the pages do
pub stands-store : {D : Type 0} (facts : Ghosts D) (disk : D) (p : Pages) → StandsOn facts p disk → journal.Stands facts p.blocks.store disk
unfolding total_of IsSpelledBy
stands-store facts disk p stands = grind arith

-- the pages stand after calls that write nothing
pub stands-again : {D : Type 0} (facts : Ghosts D) (p q : Pages) (disk disk' : D) → StandsOn facts p disk → facts.seen disk' ≡ facts.seen disk → facts.block_count disk' ≡ facts.block_count disk
    → NothingPending facts disk' → q.blocks.store ≡ p.blocks.store → ((image : Image) → facts.seen disk ≡ Some image → IsSpelledBy p image → IsSpelledBy q image) → StandsOn facts q disk'
unfolding total_of
stands-again facts p q disk disk' stands seen blocks settled store step = grind arith

-- The blocks that an image will have, if a journal fits it.
use Rattle.{mg_disk.specs.Disk.{Image, block_at}, mg_journal.specs.{Held.Store, JournalLemmas.{open_writes, replayed-is}, Staged.{are_once, waiting}}}
use Rattle.{mg_journal.specs.{Standing.{IsFitting, fitting_replays, total_of}, WrittenLemmas.written_elsewhere}, mg_model.specs.Replay.replay}
use Rattle.mg_pages.{proofs.Staging.{written-none, written-waiting}, specs.{Meaning.replayed, Parts.coming_of, SpelledLemmas.replayed_is}}
use Rattle.std.{proofs.Common.{sym, ap, ◌∙◌, arith}, specs.Prelude.{◌≡◌, ◌<◌, ℕ, true, List, [], length, Some, None}}

pub fits-replayed : (store : Store) (image : Image) → IsFitting store image → replay image (total_of store) ≡ Some (replayed (total_of store) image)
fits-replayed store image fits =
    let r = fitting_replays store image fits in
    r.1 ∙ ap (λ (v : Image). Some v) (sym (replayed_is (total_of store) image r.0 r.1))

pub length-coming : (store : Store) (writes : List (ℕ × List ℕ)) (image : Image) → IsFitting store image → length (coming_of store writes image) ≡ length image
length-coming store writes image fits =
    (written_elsewhere writes (replayed (total_of store) image)).count
    ∙ ap (λ (v : Image). length v) (replayed-is (total_of store) image (replayed (total_of store) image) (fits-replayed store image fits))
    ∙ (written_elsewhere (open_writes image) image).count

length-replayed : (store : Store) (image : Image) → IsFitting store image → length (replayed (total_of store) image) ≡ length image
length-replayed store image fits = length-coming store [] image fits

-- a block that is staged, and one that is not
pub coming-waiting : (store : Store) (writes : List (ℕ × List ℕ)) (image : Image) (block : ℕ) (x : List ℕ) → IsFitting store image → are_once writes ≡ true → block < length image → waiting writes block ≡ Some x
    → block_at (coming_of store writes image) block ≡ x
coming-waiting store writes image block x fits once below is = grind (arith, written-waiting, length-replayed)

pub coming-none : (store : Store) (writes : List (ℕ × List ℕ)) (image : Image) (block : ℕ) (x : List ℕ) → IsFitting store image → waiting writes block ≡ None
    → ((r : Image) → replay image (total_of store) ≡ Some r → x ≡ block_at r block) → x ≡ block_at (coming_of store writes image) block
coming-none store writes image block x fits none read = grind (arith, fits-replayed, written-none)

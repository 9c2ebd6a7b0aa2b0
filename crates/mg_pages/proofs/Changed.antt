-- A word is written into the block of a page that has a frame.
use Rattle.{mg_disk.specs.Disk.{Image, block_at}, mg_journal.specs.Staged.staged, mg_model.specs.{Bytes.block_words, Layout.body_limit}}
use Rattle.{mg_model.specs.{Layout.{first_frame, table_block, table_blocks}, Volume.page_words}, mg_pages.proofs.Awaited.length-coming}
use Rattle.mg_pages.proofs.{Counted.{coming-as, page-as}, OneBlock.still-named, PageWords.{other-words, page-in, this-word}, Places.place-of}
use Rattle.mg_pages.proofs.{Sound.sound-staged, Staging.{length-kept, length-staged, written-staged}, Tables.{holds-apart, spelled-new}}
use Rattle.mg_pages.specs.{Held.IsSound, Kept.AreKept, Meaning.{BindsOnly, IsSpelledBy, SetsWord, StagesMore, coming, is_staged, page_now, replayed}}
use Rattle.{mg_pages.specs.{Meaning.{staged_of, table_in, total_of}, Parts.coming_of, declared.pages.Pages.Pages}, std.proofs.Common.{refl, sym, ap}}
use Rattle.std.{proofs.{Common.{◌∙◌, inr, arith, get_or}, lemmas.List.{get_or-set_other, get_or-set_same}}, specs.{List.position, Prelude.{◌≡◌, ◌≢◌}}}
use Rattle.std.specs.Prelude.{◌+◌, ◌≤◌, ◌<◌, ◌==◌, ℕ, List, [], length, slice_set, Some}

-- the image with what is coming is long enough for every frame
pub long-coming : (p : Pages) (image : Image) → IsSpelledBy p image → p.blocks.store.total ≤ length (coming_of p.blocks.store p.blocks.writes image)
unfolding IsSpelledBy total_of
long-coming p image is = let long = is.long in let e = length-coming p.blocks.store p.blocks.writes image is.fitting in omega arith

pub sound-changed : (total : ℕ) (frames : List ℕ) (writes : List (ℕ × List ℕ)) (page f : ℕ) (bytes : List ℕ) → position (λ entry. entry == page) frames ≡ Some f → length writes + 2 ≤ body_limit → IsSound total frames writes
    → IsSound total frames (staged writes (first_frame (length frames) + f) bytes)
sound-changed total frames writes page f bytes at room sound =
    let below = (place-of frames page f at).0 in
    let size = sound.size in
    sound-staged total frames writes (first_frame (length frames) + f) bytes (omega arith) (omega arith) (inr (omega arith)) sound

module _ (p q : Pages) (page f : ℕ) (bytes : List ℕ) (at : position (λ entry. entry == page) p.frames ≡ Some f)
    (same_store : q.blocks.store ≡ p.blocks.store) (same_frames : q.frames ≡ p.frames) (new_writes : q.blocks.writes ≡ staged p.blocks.writes (first_frame (length p.frames) + f) bytes) where
  abbrev block : ℕ
  block = first_frame (length p.frames) + f

  inside : f < length p.frames
  inside = (place-of p.frames page f at).0

  high : block < p.blocks.store.total
  high = let below = inside in let size = p.sound.size in omega arith

  pub staged-changed : StagesMore 2 p q
  unfolding staged_of is_staged
  staged-changed = grind (arith, length-staged, length-kept, still-named)

  written-changed : (image : Image) → coming_of p.blocks.store (staged p.blocks.writes block bytes) image ≡ slice_set (coming_of p.blocks.store p.blocks.writes image) block bytes
  written-changed image = written-staged p.blocks.writes (replayed p.blocks.store.total image) block bytes p.sound.once

  others-stay : (image : Image) (k : ℕ) → k ≢ block → block_at (coming_of p.blocks.store (staged p.blocks.writes block bytes) image) k ≡ block_at (coming_of p.blocks.store p.blocks.writes image) k
  others-stay image k other = ap (λ i. block_at i k) (written-changed image) ∙ get_or-set_other (coming_of p.blocks.store p.blocks.writes image) block k bytes [] other

  pub spelled-changed : (image : Image) → (AreKept (first_frame (length p.frames)) (replayed p.blocks.store.total image) p.blocks.kept → AreKept (first_frame (length p.frames)) (replayed p.blocks.store.total image) q.blocks.kept) → IsSpelledBy p image → IsSpelledBy q image
  spelled-changed image =
      spelled-new p q image same_store (ap (λ (xs : List ℕ). length xs) same_frames)
      (λ holds.
      rw (same_frames, new_writes)
      (holds-apart p.frames (table_blocks (length p.frames)) (coming_of p.blocks.store p.blocks.writes image) (coming_of p.blocks.store (staged p.blocks.writes block bytes) image) (λ k few. others-stay image (table_block + k) (λ same. omega arith)) holds))

  pub binds-changed : BindsOnly page p q
  unfolding table_in
  binds-changed other bound = inr (rw same_frames at bound)

  pub sets-changed : (image : Image) (index value : ℕ) → IsSpelledBy p image → block_words bytes ≡ slice_set (block_words (block_at (coming_of p.blocks.store p.blocks.writes image) block)) index value → SetsWord p q image page index value
  unfolding coming
  sets-changed image index value is are =
      let r = coming_of p.blocks.store p.blocks.writes image in
      let r' = coming_of p.blocks.store (staged p.blocks.writes block bytes) image in
      let n = length p.frames in
      let long = long-coming p image is in
      let below = high in
      let here : block_at r' block ≡ bytes = ap (λ i. block_at i block) (written-changed image) ∙ get_or-set_same r block bytes [] (omega arith) in
      let rest : (k : ℕ) → k ≢ f → block_at r' (first_frame n + k) ≡ block_at r (first_frame n + k) = λ k other. others-stay image (first_frame n + k) (λ same. other (omega arith)) in
      let now : (other : ℕ) → page_now q image other ≡ page_words r' n p.frames other = page-as q p.blocks.store p.frames (staged p.blocks.writes block bytes) same_store same_frames new_writes image in
      let was : (other : ℕ) → page_now p image other ≡ page_words r n p.frames other = page-as p p.blocks.store p.frames p.blocks.writes refl refl refl image in
      record {
        this =
            now page
            ∙ this-word n p.frames p.frames r r' page f at rest bytes index value here (are ∙ ap (λ words. slice_set words index value) (sym (page-in r n p.frames page f at)))
            ∙ ap (λ words. slice_set words index value) (sym (was page));
        others = λ other some not_page.
            now other
            ∙ other-words n p.frames p.frames r r' page f at rest other refl (λ k there same. not_page (sym (place-of p.frames other k there).1 ∙ ap (λ i. get_or p.frames i 0) same ∙ (place-of p.frames page f at).1))
            ∙ sym (was other);
        rows = λ k few.
            ap (λ i. block_at i k) (coming-as q p.blocks.store p.frames (staged p.blocks.writes block bytes) same_store same_frames new_writes image)
            ∙ others-stay image k (λ same. omega arith);
      }

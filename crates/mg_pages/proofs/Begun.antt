-- A page is bound to a free frame, and a word is written into it.
use Rattle.{mg_disk.specs.Disk.{Image, block_at}, mg_frames.specs.{Distinct.distinct-put, Places.nowhere}, mg_journal.specs.Staged.staged}
use Rattle.mg_model.specs.{Bytes.block_words, Layout.{body_limit, first_frame, table_block, table_blocks}, Volume.page_words}
use Rattle.mg_pages.proofs.{Changed.long-coming, Counted.{coming-as, page-as}, OneBlock.still-named, PageWords.{other-words, page-none, this-word}}
use Rattle.mg_pages.proofs.{Places.{any-set, place-of, position-bound, position-set}, Sound.{sound-frames, sound-staged}, Staging.length-kept}
use Rattle.mg_pages.{proofs.{Staging.{length-staged, once-staged, written-staged}, Tables.{holds-bound, spelled-new}}, specs.Entries.HoldsEntries}
use Rattle.mg_pages.specs.{Held.IsSound, Kept.AreKept, Meaning.{BindsOnly, IsSpelledBy, SetsWord, StagesMore, coming, is_staged, page_now, replayed}}
use Rattle.{mg_pages.specs.{Meaning.{staged_of, table_in}, Parts.coming_of, declared.pages.Pages.Pages}, std.proofs.Common.{refl, sym, ap, ◌∙◌, inr}}
use Rattle.std.proofs.{Common.{arith, get_or}, lemmas.{Bool.{eqb-true, ne_eqb}, List.{get_or-set_other, get_or-set_same, length-set}}}
use Rattle.std.specs.{List.{list_any, position}, Prelude.{◌≡◌, ◌≢◌, ◌+◌, ◌/◌, ◌≤◌, ◌<◌, ◌==◌, ℕ, false, List, length, replicate, slice_set, Some}}

pub sound-begun : (total : ℕ) (frames : List ℕ) (writes : List (ℕ × List ℕ)) (page f : ℕ) (bytes entries : List ℕ) → position (λ entry. entry == 0) frames ≡ Some f → page ≢ 0 → list_any (λ entry. entry == page) frames ≡ false
    → length writes + 2 ≤ body_limit → IsSound total frames writes → IsSound total (slice_set frames f page) (staged (staged writes (first_frame (length frames) + f) bytes) (table_block + f / 512) entries)
sound-begun total frames writes page f bytes entries free some unbound room sound =
    let below = (place-of frames 0 f free).0 in
    let size = sound.size in
    let block = first_frame (length frames) + f in
    let e = length-staged writes block bytes in
    let within : f / 512 < table_blocks (length frames) = omega arith in
    sound-frames total frames (slice_set frames f page) (staged (staged writes block bytes) (table_block + f / 512) entries) (length-set frames f page) (distinct-put frames f page some unbound sound.distinct)
    (sound-staged total frames (staged writes block bytes) (table_block + f / 512) entries (omega arith) (omega arith) (inr (omega arith)) (sound-staged total frames writes block bytes (omega arith) (omega arith) (inr (omega arith)) sound))

module _ (p q : Pages) (page f : ℕ) (bytes entries : List ℕ) (free : position (λ entry. entry == 0) p.frames ≡ Some f) (some : page ≢ 0) (unbound : list_any (λ entry. entry == page) p.frames ≡ false)
    (same_store : q.blocks.store ≡ p.blocks.store) (new_frames : q.frames ≡ slice_set p.frames f page) (new_writes : q.blocks.writes ≡ staged (staged p.blocks.writes (first_frame (length p.frames) + f) bytes) (table_block + f / 512) entries)
    (hold : HoldsEntries (slice_set p.frames f page) (f / 512) entries) where
  abbrev block : ℕ
  block = first_frame (length p.frames) + f

  abbrev table : ℕ
  table = table_block + f / 512

  abbrev first : List (ℕ × List ℕ)
  first = staged p.blocks.writes block bytes

  abbrev both : List (ℕ × List ℕ)
  both = staged (staged p.blocks.writes block bytes) table entries

  inside : f < length p.frames
  inside = (place-of p.frames 0 f free).0

  in-table : f / 512 < table_blocks (length p.frames)
  in-table = let below = inside in omega arith

  high : block < p.blocks.store.total
  high = let below = inside in let size = p.sound.size in omega arith

  table-high : table < p.blocks.store.total
  table-high = let below = in-table in let size = p.sound.size in omega arith

  pub as-many : length (slice_set p.frames f page) ≡ length p.frames
  as-many = length-set p.frames f page

  pub staged-begun : StagesMore 2 p q
  unfolding staged_of is_staged
  staged-begun = grind (arith, length-staged, length-kept, still-named)

  written-begun : (image : Image) → coming_of p.blocks.store both image ≡ slice_set (slice_set (coming_of p.blocks.store p.blocks.writes image) block bytes) table entries
  written-begun image = grind (arith, written-staged, once-staged)

  others-stay : (image : Image) (k : ℕ) → k ≢ block → k ≢ table → block_at (coming_of p.blocks.store both image) k ≡ block_at (coming_of p.blocks.store p.blocks.writes image) k
  others-stay image k not_block not_table = grind (arith, written-begun, get_or-set_other)

  there : (image : Image) → IsSpelledBy p image → block_at (coming_of p.blocks.store both image) table ≡ entries
  there image is = grind (arith, long-coming, table-high, length-set, written-begun, get_or-set_same)

  here : (image : Image) → IsSpelledBy p image → block_at (coming_of p.blocks.store both image) block ≡ bytes
  here image is = grind (arith, long-coming, high, in-table, written-begun, get_or-set_other, get_or-set_same)

  pub spelled-begun : (image : Image) → (AreKept (first_frame (length p.frames)) (replayed p.blocks.store.total image) p.blocks.kept → AreKept (first_frame (length p.frames)) (replayed p.blocks.store.total image) q.blocks.kept) → IsSpelledBy p image → IsSpelledBy q image
  spelled-begun image keeps is =
      spelled-new p q image same_store (ap (λ (xs : List ℕ). length xs) new_frames ∙ as-many)
      (λ holds.
      rw (new_frames, new_writes)
      (holds-bound p.frames entries (table_blocks (length p.frames)) (coming_of p.blocks.store p.blocks.writes image) (coming_of p.blocks.store both image) f page hold (there image is)
      (λ k few other. others-stay image (table_block + k) (λ same. omega arith) (λ same. other (omega arith))) holds))
      keeps is

  pub binds-begun : BindsOnly page p q
  unfolding table_in
  binds-begun other bound = grind (arith, eqb-true, any-set)

  pub sets-begun : (image : Image) (index value : ℕ) → IsSpelledBy p image → block_words bytes ≡ slice_set (replicate 512 0) index value → SetsWord p q image page index value
  unfolding coming
  sets-begun image index value is are =
      let r = coming_of p.blocks.store p.blocks.writes image in
      let r' = coming_of p.blocks.store both image in
      let n = length p.frames in
      let frames' = slice_set p.frames f page in
      let apart = in-table in
      let at : position (λ entry. entry == page) frames' ≡ Some f = position-bound p.frames f page inside unbound in
      let rest : (k : ℕ) → k ≢ f → block_at r' (first_frame n + k) ≡ block_at r (first_frame n + k) = λ k other. others-stay image (first_frame n + k) (λ same. other (omega arith)) (λ same. omega arith) in
      let now : (other : ℕ) → page_now q image other ≡ page_words r' n frames' other = λ other. page-as q p.blocks.store frames' both same_store new_frames new_writes image other ∙ ap (λ m. page_words r' m frames' other) as-many in
      let was : (other : ℕ) → page_now p image other ≡ page_words r n p.frames other = page-as p p.blocks.store p.frames p.blocks.writes refl refl refl image in
      record {
        this =
            now page
            ∙ this-word n p.frames frames' r r' page f at rest bytes index value (here image is)
            (are ∙ ap (λ words. slice_set words index value) (sym (page-none r n p.frames page (nowhere (λ entry. entry == page) p.frames unbound))))
            ∙ ap (λ words. slice_set words index value) (sym (was page));
        others = λ other not_zero not_page.
            now other
            ∙ other-words n p.frames frames' r r' page f at rest other (moved other not_zero not_page)
            (λ k found same. not_zero (sym (place-of p.frames other k found).1 ∙ ap (λ i. get_or p.frames i 0) same ∙ (place-of p.frames 0 f free).1))
            ∙ sym (was other);
        rows = λ k few.
            ap (λ i. block_at i k) (coming-as q p.blocks.store frames' both same_store new_frames new_writes image)
            ∙ others-stay image k (λ same. omega arith) (λ same. omega arith);
      }
    where
      moved : (other : ℕ) → other ≢ 0 → other ≢ page → position (λ entry. entry == other) (slice_set p.frames f page) ≡ position (λ entry. entry == other) p.frames
      moved other not_zero not_page =
          position-set (λ entry. entry == other) p.frames f page 0
          (ne_eqb page other (λ same. not_page (sym same))
          ∙ sym (ap (λ entry. entry == other) (place-of p.frames 0 f free).1 ∙ ne_eqb 0 other (λ same. not_zero (sym same))))

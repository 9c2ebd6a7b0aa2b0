-- One block more is staged.
use Rattle.{mg_disk.specs.Disk.{Image, block_at}, mg_journal.specs.{Contents.names, Staged.staged}, mg_model.specs.Layout.first_frame}
use Rattle.{mg_model.specs.Layout.{globals_block, table_block, table_blocks}, mg_pages.proofs.{Opened.same-shape, Staging.length-kept}}
use Rattle.mg_pages.{proofs.{Staging.{length-staged, names-staged, written-staged}, Tables.{holds-apart, spelled-new}}, specs.Held.with_writes}
use Rattle.mg_pages.specs.{Kept.AreKept, Meaning.{IsRowBlock, IsSpelledBy, SameShape, StagesBlock, StagesMore, coming, is_staged, replayed}}
use Rattle.mg_pages.specs.{Meaning.{staged_of, table_in, words_in}, Parts.coming_of, declared.{blocks.Blocks.Blocks, pages.Pages.Pages}}
use Rattle.std.proofs.{Common.{ap, refl, subst, ◌∙◌, sym, arith}, lemmas.{Bool.{eq-eqb, or_left, or_right}, List.get_or-set_other}}
use Rattle.std.specs.Prelude.{◌≡◌, ◌+◌, ◌≤◌, ◌<◌, ◌==◌, ℕ, true, List, [], length, slice_set}

pub still-named : (writes : List (ℕ × List ℕ)) (b : ℕ) (bytes : List ℕ) (block : ℕ) → names writes block ≡ true → names (staged writes b bytes) block ≡ true
still-named writes b bytes block is = names-staged writes b bytes block ∙ or_right (b == block) (names writes block) is

pub now-named : (writes : List (ℕ × List ℕ)) (b : ℕ) (bytes : List ℕ) → names (staged writes b bytes) b ≡ true
now-named writes b bytes = names-staged writes b bytes b ∙ or_left (b == b) (names writes b) (eq-eqb b b refl)

module _ (p q : Pages) (block : ℕ) (bytes : List ℕ) (blocks : q.blocks ≡ with_writes p.blocks (staged p.blocks.writes block bytes)) (frames : q.frames ≡ p.frames) where
  writes : q.blocks.writes ≡ staged p.blocks.writes block bytes
  writes = ap (λ (b : Blocks). b.writes) blocks

  pub shape-more : SameShape p q
  shape-more = same-shape p q (ap (λ (b : Blocks). b.store) blocks) (ap (λ (xs : List ℕ). length xs) frames)

  pub coming-more : (image : Image) → coming q image ≡ slice_set (coming p image) block bytes
  unfolding coming
  coming-more image = ap (λ (b : Blocks). coming_of b.store b.writes image) blocks ∙ written-staged p.blocks.writes (replayed p.blocks.store.total image) block bytes p.sound.once

  pub stages-more : StagesMore 1 p q
  unfolding staged_of is_staged
  stages-more = grind (arith, writes, length-kept, length-staged, still-named)

  pub here-more : is_staged q block ≡ true
  unfolding is_staged
  here-more = rw writes (now-named p.blocks.writes block bytes)

  pub spelled-more : globals_block ≤ block → block < table_block → (image : Image) → IsSpelledBy p image → IsSpelledBy q image
  spelled-more low high image =
      spelled-new p q image (ap (λ (b : Blocks). b.store) blocks) (ap (λ (xs : List ℕ). length xs) frames)
      (λ holds.
      rw (frames, writes)
      (holds-apart p.frames (table_blocks (length p.frames)) (coming_of p.blocks.store p.blocks.writes image) (coming_of p.blocks.store (staged p.blocks.writes block bytes) image)
      (λ k few.
      ap (λ i. block_at i (table_block + k)) (written-staged p.blocks.writes (replayed p.blocks.store.total image) block bytes p.sound.once)
      ∙ get_or-set_other (coming_of p.blocks.store p.blocks.writes image) block (table_block + k) bytes [] (λ at. omega arith)) holds))
      (subst (λ (b : Blocks). AreKept (first_frame (length p.frames)) (replayed p.blocks.store.total image) p.blocks.kept → AreKept (first_frame (length p.frames)) (replayed p.blocks.store.total image) b.kept) (sym blocks) (λ kept. kept))

  pub stages-block : IsRowBlock block → q.count ≡ p.count → StagesBlock block bytes p q
  unfolding table_in words_in
  stages-block place count = record { coming = coming-more; table = frames; shape = shape-more; staged = stages-more; here = here-more; words = count; spelled = spelled-more place.low place.high }

-- What changes of an image and of the frames leave of the frame table.
use Rattle.{mg_disk.specs.Disk.{Image, block_at}, mg_journal.specs.Held.Store, mg_model.specs.{Bytes.number_at, Layout.{first_frame, table_block}}}
use Rattle.{mg_model.specs.Layout.table_blocks, mg_pages.{proofs.Entries.{holds-spelled, spelled-past, spelled-table}, specs.Entries.HoldsEntries}}
use Rattle.mg_pages.specs.{Entries.HoldsTable, Kept.AreKept, Meaning.{IsSpelledBy, coming, frame_count, kept_in, replayed, table_in, total_of}}
use Rattle.{mg_pages.specs.{Parts.coming_of, declared.pages.Pages.Pages}, std.proofs.{Common.{sym, ap, subst, ◌∙◌, arith}, lemmas.Bool.cases_eq}}
use Rattle.std.{proofs.lemmas.List.get_or-set_other, specs.Prelude.{◌≡◌, ◌≢◌, ◌+◌, ◌*◌, ◌/◌, ◌≤◌, ◌<◌, ℕ, List, length, slice_set}}
use Rattle.mg_journal.specs.Standing as journal

-- a value with the same journal that spells another table, with other writes
pub spelled-new : (p q : Pages) (image : Image) → q.blocks.store ≡ p.blocks.store → length q.frames ≡ length p.frames
    → (HoldsTable p.frames (table_blocks (length p.frames)) (coming_of p.blocks.store p.blocks.writes image) → HoldsTable q.frames (table_blocks (length p.frames)) (coming_of p.blocks.store q.blocks.writes image))
    → (AreKept (first_frame (length p.frames)) (replayed p.blocks.store.total image) p.blocks.kept → AreKept (first_frame (length p.frames)) (replayed p.blocks.store.total image) q.blocks.kept)
    → IsSpelledBy p image → IsSpelledBy q image
unfolding IsSpelledBy total_of coming frame_count table_in kept_in
spelled-new p q image store many step keeps is =
    let new : HoldsTable q.frames (table_blocks (length q.frames)) (coming_of q.blocks.store q.blocks.writes image) =
    subst (λ s. HoldsTable q.frames (table_blocks (length q.frames)) (coming_of s q.blocks.writes image)) (sym store)
    (subst (λ n. HoldsTable q.frames (table_blocks n) (coming_of p.blocks.store q.blocks.writes image)) (sym many) (step (holds-spelled p.frames (coming_of p.blocks.store p.blocks.writes image) is.table is.past))) in
    record {
      fitting = subst (λ s. journal.IsFitting s image) (sym store) is.fitting;
      long = subst (λ (s : Store). s.total ≤ length image) (sym store) is.long;
      table = spelled-table q.frames (coming_of q.blocks.store q.blocks.writes image) new;
      past = spelled-past q.frames (coming_of q.blocks.store q.blocks.writes image) new;
      kept =
          subst (λ (s : Store). AreKept (first_frame (length q.frames)) (replayed s.total image) q.blocks.kept) (sym store)
          (subst (λ n. AreKept (first_frame n) (replayed p.blocks.store.total image) q.blocks.kept) (sym many) (keeps is.kept));
    }

-- the table's blocks are as they were
pub holds-apart : (frames : List ℕ) (n : ℕ) (r r' : Image) → ((k : ℕ) → k < n → block_at r' (table_block + k) ≡ block_at r (table_block + k)) → HoldsTable frames n r → HoldsTable frames n r'
holds-apart frames n r r' same holds k few j below = ap (λ bytes. number_at bytes (8 * j)) (same k few) ∙ holds k few j below

-- one entry is another, and its block is given
pub holds-bound : (frames entries : List ℕ) (n : ℕ) (r r' : Image) (f page : ℕ) → HoldsEntries (slice_set frames f page) (f / 512) entries → block_at r' (table_block + f / 512) ≡ entries
    → ((k : ℕ) → k < n → k ≢ f / 512 → block_at r' (table_block + k) ≡ block_at r (table_block + k)) → HoldsTable frames n r → HoldsTable (slice_set frames f page) n r'
holds-bound frames entries n r r' f page hold here same holds k few j below = grind (arith, get_or-set_other, cases_eq)

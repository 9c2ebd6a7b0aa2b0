-- A store to a word, from the block that it changes.
use Rattle.{mg_disk.specs.Disk.{Image, block_at}, mg_journal.specs.Held.Store, mg_model.specs.{Bytes.block_words, Layout.first_frame}}
use Rattle.{mg_pages.specs.{Kept.AreKept, Meaning.replayed, Parts.{ChangesWord, StagesBlock, coming_of}}, std.proofs.Common.subst}
use Rattle.std.specs.{List.position, Option.ForSome, Prelude.{◌≡◌, ◌+◌, ◌==◌, ℕ, List, length, slice_set, Option, Some}}

pub changes-word : (told : Option Image) (store : Store) (kept : List (ℕ × List ℕ)) (page index value : ℕ) (frames : List ℕ) (old new : List (ℕ × List ℕ)) (frame block : ℕ)
    → position (λ entry. entry == page) frames ≡ Some frame → block ≡ first_frame (length frames) + frame
    → StagesBlock old new block (λ bytes. ForSome told (λ image. AreKept (first_frame (length frames)) (replayed store.total image) kept → block_words bytes ≡ slice_set (block_words (block_at (coming_of store old image) block)) index value))
    → ChangesWord told store kept page index value frames old new
changes-word told store kept page index value frames old new frame block holds at stages =
    let there = subst (λ b. StagesBlock old new b (λ bytes. ForSome told (λ image. AreKept (first_frame (length frames)) (replayed store.total image) kept → block_words bytes ≡ slice_set (block_words (block_at (coming_of store old image) b)) index value))) at stages in
    record { frame = frame; holds = holds; bytes = there.bytes; more = there.more; are = there.are }

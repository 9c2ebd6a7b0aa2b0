-- The words of pages once a block of one of them is another.
use Rattle.{mg_disk.specs.Disk.{Image, block_at}, mg_model.specs.{Bytes.block_words, Layout.first_frame, Volume.page_words}, std.proofs.Common.refl}
use Rattle.std.{proofs.Common.{sym, ap, ◌∙◌}, specs.{List.position, Option.option_map_or, Prelude.{◌≡◌, ◌≢◌, ◌+◌, ◌==◌, ℕ, List, replicate}}}
use Rattle.std.specs.Prelude.{slice_set, Option, Some, None}

pub page-in : (image : Image) (n : ℕ) (table : List ℕ) (page f : ℕ) → position (λ entry. entry == page) table ≡ Some f → page_words image n table page ≡ block_words (block_at image (first_frame n + f))
page-in image n table page f is = ap (λ place. option_map_or (λ frame. block_words (block_at image (first_frame n + frame))) place (replicate 512 0)) is

pub page-none : (image : Image) (n : ℕ) (table : List ℕ) (page : ℕ) → position (λ entry. entry == page) table ≡ None → page_words image n table page ≡ replicate 512 0
page-none image n table page is = ap (λ place. option_map_or (λ frame. block_words (block_at image (first_frame n + frame))) place (replicate 512 0)) is

-- a page in the frame where it was, with its block as it was
pub page-same : (r r' : Image) (n : ℕ) (table table' : List ℕ) (page : ℕ) → position (λ entry. entry == page) table' ≡ position (λ entry. entry == page) table
    → ((k : ℕ) → position (λ entry. entry == page) table ≡ Some k → block_at r' (first_frame n + k) ≡ block_at r (first_frame n + k))
    → page_words r' n table' page ≡ page_words r n table page
page-same r r' n table table' page moved same = go (position (λ entry. entry == page) table) refl
  where
    go : (o : Option ℕ) → position (λ entry. entry == page) table ≡ o → page_words r' n table' page ≡ page_words r n table page
    go None is = page-none r' n table' page (moved ∙ is) ∙ sym (page-none r n table page is)
    go (Some k) is = page-in r' n table' page k (moved ∙ is) ∙ ap block_words (same k is) ∙ sym (page-in r n table page k is)

-- one word of a page is another, the other pages are as they were
module _ (n : ℕ) (frames frames' : List ℕ) (r r' : Image) (page f : ℕ) (at : position (λ entry. entry == page) frames' ≡ Some f) (rest : (k : ℕ) → k ≢ f → block_at r' (first_frame n + k) ≡ block_at r (first_frame n + k)) where
  pub this-word : (bytes : List ℕ) (index value : ℕ) → block_at r' (first_frame n + f) ≡ bytes → block_words bytes ≡ slice_set (page_words r n frames page) index value
      → page_words r' n frames' page ≡ slice_set (page_words r n frames page) index value
  this-word bytes index value here are = page-in r' n frames' page f at ∙ ap block_words here ∙ are

  pub other-words : (other : ℕ) → position (λ entry. entry == other) frames' ≡ position (λ entry. entry == other) frames → ((k : ℕ) → position (λ entry. entry == other) frames ≡ Some k → k ≢ f)
      → page_words r' n frames' other ≡ page_words r n frames other
  other-words other moved apart = page-same r r' n frames frames' other moved (λ k is. rest k (apart k is))

-- Blocks of accounts are staged, as a list has the rows.
use Rattle.std.specs.Prelude.{◌≡◌, ◌⊎◌, ◌+◌, ◌*◌, ◌/◌, ◌≤◌, ◌<◌, ℕ, Bool, true, false, List, slice_get, Some}
use Rattle.{mg_disk.specs.Disk.Image, mg_model.specs.Layout.{first_account_block, first_thread_block}}
use Rattle.mg_model.specs.{Limits.account_limit, Replay.block_of, declared.accounts.AccRow.AccRow}
use Rattle.{mg_pages.specs.declared.pages.Pages.Pages, mg_rows.specs.Blocks.account_in}
use Rattle.mg_pages.specs.Meaning as pages

-- the rows of block k of the table, 64 of them
abbrev pub HasAccounts : List AccRow → ℕ → List ℕ → Type 0
HasAccounts rows k bytes = (j : ℕ) → j < 64 → account_in bytes j ≡ Some (slice_get rows (64 * k + j))

-- a block that is none of the table
abbrev pub IsBeside : ℕ → Type 0
IsBeside block = (block < first_account_block) ⊎ (first_thread_block ≤ block)

-- The blocks of the table that a test names, at most `most` blocks, are staged as the rows say. Every other block is as it was.
pub record StagesAccounts (most : ℕ) (named : ℕ → Bool) (rows : List AccRow) (old new : Pages) : Type 0 where
  pub table : pages.table_in new ≡ pages.table_in old
  pub shape : pages.SameShape old new
  pub words : pages.words_in new ≡ pages.words_in old
  pub staged : pages.StagesMore most old new
  pub spelled : (image : Image) → pages.IsSpelledBy old image → pages.IsSpelledBy new image
  pub here : (image : Image) (k : ℕ) → pages.IsSpelledBy old image → k < 16 → named k ≡ true → HasAccounts rows k (block_of (pages.coming new image) (first_account_block + k))
  pub rest : (image : Image) (k : ℕ) → k < 16 → named k ≡ false → block_of (pages.coming new image) (first_account_block + k) ≡ block_of (pages.coming old image) (first_account_block + k)
  pub beside : (image : Image) (block : ℕ) → IsBeside block → block_of (pages.coming new image) block ≡ block_of (pages.coming old image) block

-- rows that differ from these in blocks alone that a test names
pub record DifferWithin (named : ℕ → Bool) (old new : List AccRow) : Type 0 where
  pub each : (i : ℕ) → i < account_limit → named (i / 64) ≡ false → slice_get new i ≡ slice_get old i

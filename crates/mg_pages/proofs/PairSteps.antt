-- Steps of a search through the pairs of words of a block.
use Rattle.{mg_model.specs.Bytes.{block_words, number_at}, mg_pages.proofs.Numbers.block-word, std.proofs.Common.{◌≡◌, ◌≢◌, ◌+◌, ◌*◌, ◌%◌, ◌^◌, ◌≤◌}}
use Rattle.std.proofs.{Common.{◌<◌, ℕ, List, slice_index, arith, sym, ◌∙◌}, Math.Nat.mod-add-mod, lemmas.Bool.cases_lt}

-- the word at an index of a block, by what was read there
pub word-there : (bytes : List ℕ) (index word : ℕ) → index < 512 → word ≡ number_at bytes (8 * index) → slice_index (block_words bytes) index ≡ word
word-there bytes index word below read = sym (read ∙ block-word bytes index below)

-- one word more is counted
pub count-more : (w0 w w' n m : ℕ) → w % 2 ^ 64 ≡ (w0 + n) % 2 ^ 64 → w' ≡ (w + 1) % 2 ^ 64 → m ≡ n + 1 → w' % 2 ^ 64 ≡ (w0 + m) % 2 ^ 64
count-more w0 w w' n m so_far more next = grind (arith, mod-add-mod)

-- one pair more has another first word
pub none-more : (words : List ℕ) (from j first : ℕ) → ((k : ℕ) → from ≤ k → k < j → slice_index words (2 + 2 * k) ≢ first) → slice_index words (2 + 2 * j) ≢ first
    → (k : ℕ) → from ≤ k → k < j + 1 → slice_index words (2 + 2 * k) ≢ first
none-more words from j first none not_here k least below hit = grind (arith, cases_lt)

-- Blocks in an order, and a table that says where each may be.
use Rattle.std.specs.Prelude.{◌≡◌, ◌≢◌, ◌≤◌, ◌<◌, ◌%◌, ℕ, List, AllPairs, length, slice_index_or}
use Rattle.mg_model.specs.Layout.{body_limit}

-- what the table has for a block: 0 where it is not among the blocks, else one more than the place where it may be
abbrev pub hint_of : List ℕ → ℕ → ℕ
hint_of hints block = slice_index_or hints (block % 256) 0

-- these blocks, no more than a commit takes and none twice, have a table of hints in which none names a place after the last,
-- and each block has one
pub record AreHinted (homes : List ℕ) (hints : List ℕ) : Type 0 where
  pub few : length homes ≤ body_limit
  pub once : AllPairs (λ a b. a ≢ b) homes
  pub wide : length hints ≡ 256
  pub within : (row : ℕ) → slice_index_or hints row 0 ≤ length homes
  pub hinted : (k : ℕ) → k < length homes → 0 < hint_of hints (slice_index_or homes k 0)

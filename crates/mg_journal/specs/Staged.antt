-- Writes that wait for a commit: pairs of a block and its bytes, no block twice.
use Rattle.std.specs.{Option.option_map_or, Prelude.{◌≡◌, ◌==◌, ◌&&◌, ◌+◌, ◌*◌, ◌≤◌, ◌<◌, ℕ, Bool, true, not, List, []}}
use Rattle.std.specs.Prelude.{◌∷◌, ◌++◌, find, length, option_map, position, slice_index_or, slice_set, Option}
use Rattle.{mg_disk.specs.Disk.{Image, block_at}, mg_journal.specs.Contents.names, mg_model.specs.Bytes.number_at}
use Rattle.mg_model.specs.Layout.{body_limit}

-- whether no two of these writes go to one block
abbrev pub are_once : List (ℕ × List ℕ) → Bool
are_once [] = true
are_once ((i, block) ∷ writes) = not (names writes i) && are_once writes

-- whether a write goes to this block
abbrev pub goes_to : ℕ → ℕ × List ℕ → Bool
goes_to block write = write.0 == block

-- a write more, in place of the one to that block or after the others
abbrev pub staged : List (ℕ × List ℕ) → ℕ → List ℕ → List (ℕ × List ℕ)
staged writes block bytes = option_map_or (λ k. slice_set writes k (block, bytes)) (position (goes_to block) writes) (writes ++ (block, bytes) ∷ [])

-- what is staged for a block
abbrev pub waiting : List (ℕ × List ℕ) → ℕ → Option (List ℕ)
waiting writes block = option_map (λ (write : ℕ × List ℕ). write.1) (find (goes_to block) writes)

-- the block and the bytes of write j
abbrev pub home_at : List (ℕ × List ℕ) → ℕ → ℕ
home_at writes j = (slice_index_or writes j (0, [])).0

abbrev pub bytes_of : List (ℕ × List ℕ) → ℕ → List ℕ
bytes_of writes j = (slice_index_or writes j (0, [])).1

-- writes to these blocks of what lies at place j and after
abbrev pub paired : List ℕ → Image → ℕ → List (ℕ × List ℕ)
paired [] blocks j = []
paired (home ∷ homes) blocks j = (home, block_at blocks j) ∷ paired homes blocks (j + 1)

-- the first of these blocks is the index of a segment that holds these writes, and those after it are what they write
pub record IsRunOf (writes : List (ℕ × List ℕ)) (run : Image) : Type 0 where
  pub long : length run ≡ length writes + 1
  pub count : number_at (block_at run 0) 0 ≡ length writes
  pub homes : (j : ℕ) → j < length writes → number_at (block_at run 0) (8 + 8 * j) ≡ home_at writes j
  pub bodies : (j : ℕ) → j < length writes → block_at run (1 + j) ≡ bytes_of writes j

-- these blocks are an index with these homes and what goes to them, no more than a commit takes, and no home is there twice
pub record AreHeld (homes : List ℕ) (blocks : Image) : Type 0 where
  pub few : length homes ≤ body_limit
  pub once : are_once (paired homes blocks 1) ≡ true
  pub run : IsRunOf (paired homes blocks 1) blocks

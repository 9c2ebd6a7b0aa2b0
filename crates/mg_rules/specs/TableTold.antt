-- What is read of the frame table.
use Rattle.std.specs.Prelude.{◌≡◌, ℕ, zero, suc, ◌+◌, ◌-◌, ◌*◌, ◌/◌, ◌%◌, min, true, false, List, [], ◌∷◌, drop}
use Rattle.mg_model.specs.{Abbreviations.{table_of, whole_table}, Bytes.{are_zeros, number_at}, Layout.table_block}
use Rattle.mg_model.specs.Replay.{block_of}

-- entry i of the table in its block
abbrev pub entry_in : List ℕ → ℕ → ℕ
entry_in block i = number_at block (8 * (i % 512))

abbrev pub table_entry : List (List ℕ) → ℕ → ℕ
table_entry image i = entry_in (block_of image (table_block + i / 512)) i

-- the words of this many entries, from entry i on
abbrev pub entries : (ℕ → ℕ) → ℕ → ℕ → List ℕ
entries entry i zero = []
entries entry i (suc n) = entry i ∷ entries entry (i + 1) n

-- of the first n entries these are those of frames, and those after the last frame are 0
pub record AreEntries (entry : ℕ → ℕ) (n frames : ℕ) (table : List ℕ) : Type 0 where
  pub are : table ≡ entries entry 0 (min n frames)
  pub rest : are_zeros (entries entry frames (n - frames)) ≡ true

-- these are the entries of all frames, and the bytes after the last one are 0
pub record IsTable (image : List (List ℕ)) (frames : ℕ) (table : List ℕ) : Type 0 where
  pub are : table_of image frames ≡ table
  pub rest : are_zeros (drop frames (whole_table image frames)) ≡ true

-- a byte after the last entry is not 0
pub record HasRest (image : List (List ℕ)) (frames : ℕ) : Type 0 where
  pub rest : are_zeros (drop frames (whole_table image frames)) ≡ false

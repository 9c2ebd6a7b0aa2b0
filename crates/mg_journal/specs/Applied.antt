-- What the bodies at some places write.
use Rattle.std.specs.Prelude.{◌≡◌, ◌+◌, ◌<◌, ℕ, List, length, map, slice_index_or}
use Rattle.mg_disk.specs.Disk.{Image, block_at}

-- the writes of these places: each home, with what the image holds at the body
abbrev pub filled : Image → List (ℕ × ℕ) → List (ℕ × List ℕ)
filled image places = map (λ (place : ℕ × ℕ). (place.0, block_at image place.1)) places

-- the home and the body of place k
abbrev pub nth_home : List (ℕ × ℕ) → ℕ → ℕ
nth_home places k = (slice_index_or places k (0, 0)).0

abbrev pub nth_body : List (ℕ × ℕ) → ℕ → ℕ
nth_body places k = (slice_index_or places k (0, 0)).1

-- of the bodies at these places those below block n are in memory, each at its own place
abbrev pub HasBodies : ℕ → List (ℕ × ℕ) → Image → Image → Type 0
HasBodies n places memory image = (k : ℕ) → k < length places → nth_body places k < n → block_at memory (nth_body places k) ≡ block_at image (nth_body places k)

-- this many homes, from place k on, follow one another
abbrev pub AreInRow : List (ℕ × ℕ) → ℕ → ℕ → Type 0
AreInRow places k n = (j : ℕ) → j < n → nth_home places (k + j) ≡ nth_home places k + j

-- the run has the bodies of this many places, from place k on, one after another
abbrev pub HasRun : List (ℕ × ℕ) → ℕ → ℕ → Image → Image → Type 0
HasRun places k n memory run = (j : ℕ) → j < n → block_at run j ≡ block_at memory (nth_body places (k + j))

-- Blocks of the contents that are kept in memory: pairs of a block's number and its bytes.
use Rattle.std.specs.{Map.lookup, Prelude.{◌≡◌, ◌≢◌, ◌⊎◌, ◌≤◌, ℕ, List, map, nat_eq, None, Option, Some}}
use Rattle.{mg_disk.specs.Disk.{Image, block_at}, mg_journal.specs.Staged.waiting}

-- the entries of a cache, with the bytes that each value shows
abbrev pub shown : {V : Type 0} → (V → List ℕ) → List (ℕ × V) → List (ℕ × List ℕ)
shown f entries = map (λ e. (e.0, f e.1)) entries

-- what is kept of a block
abbrev pub kept_at : List (ℕ × List ℕ) → ℕ → Option (List ℕ)
kept_at kept i = lookup (nat_eq i) kept

-- what is kept of a block from this number on is what the contents have
abbrev pub AreKept : ℕ → Image → List (ℕ × List ℕ) → Type 0
AreKept first r kept = (i : ℕ) (bytes : List ℕ) → kept_at kept i ≡ Some bytes → first ≤ i → bytes ≡ block_at r i

-- it is, if no write goes to the block
abbrev pub AreKeptBut : List (ℕ × List ℕ) → ℕ → Image → List (ℕ × List ℕ) → Type 0
AreKeptBut writes first r kept = (i : ℕ) (bytes : List ℕ) → kept_at kept i ≡ Some bytes → first ≤ i → waiting writes i ≡ None → bytes ≡ block_at r i

-- the same blocks are kept, in whatever order
abbrev pub KeepsSame : List (ℕ × List ℕ) → List (ℕ × List ℕ) → Type 0
KeepsSame old new = (i : ℕ) → kept_at new i ≡ kept_at old i

-- what is kept now is this block, or was kept before
abbrev pub KeepsBesides : ℕ → List ℕ → List (ℕ × List ℕ) → List (ℕ × List ℕ) → Type 0
KeepsBesides block is old new = (i : ℕ) (bytes : List ℕ) → kept_at new i ≡ Some bytes → ((i ≡ block) × (bytes ≡ is)) ⊎ (kept_at old i ≡ Some bytes)

-- what is kept now is this block, or was kept before of another
abbrev pub KeepsThis : ℕ → List ℕ → List (ℕ × List ℕ) → List (ℕ × List ℕ) → Type 0
KeepsThis block is old new = (i : ℕ) (bytes : List ℕ) → kept_at new i ≡ Some bytes → ((i ≡ block) × (bytes ≡ is)) ⊎ ((i ≢ block) × (kept_at old i ≡ Some bytes))

-- What the clauses of a disk's calls say: images, moments, and what a stop may leave. These words are over values.
use Rattle.std.specs.Prelude.{◌≡◌, ◌⊎◌, ◌+◌, ◌<◌, ◌≤◌, ℕ, List, [], length, All, slice_index_or, Option, Some, None}

-- An image is a list of blocks, each a list of bytes.
abbrev pub Image : Type 0
Image = List (List ℕ)

-- the block at a place, empty past the end
abbrev pub block_at : Image → ℕ → List ℕ
block_at image k = slice_index_or image k []

-- every block holds bytes
abbrev pub AreBytes : Image → Type 0
AreBytes image = All (λ block. All (λ byte. byte < 256) block) image

-- A moment of a disk: a number for a plain disk; for a disk made of two, a moment of each, or of the disk that is in use.
pub data Moment : Type 0 where
  At : ℕ → Moment
  Both : Moment → Moment → Moment
  Alone : Moment → Moment

-- the same number of blocks, and the same blocks except at these places
pub record SameBut (places : ℕ → Type 0) (old new : Image) : Type 0 where
  pub count : length new ≡ length old
  pub others : (k : ℕ) → (places k → ⊥) → block_at new k ≡ block_at old k

-- this place alone
abbrev pub only_place : ℕ → ℕ → Type 0
only_place i k = k ≡ i

-- `count` places from the first one on
pub record InRange (first count k : ℕ) : Type 0 where
  pub from : first ≤ k
  pub before : k < first + count

-- an image has these blocks next to each other, the first of them at this place
abbrev pub HasBlocks : ℕ → Image → Image → Type 0
HasBlocks first blocks image = (k : ℕ) → k < length blocks → block_at image (first + k) ≡ block_at blocks k

-- What reads give differs at these places alone, if it is told. A disk that tells it before tells it after.
abbrev pub SeenBut : (ℕ → Type 0) → Option Image → Option Image → Type 0
SeenBut places (Some old) (Some new) = SameBut places old new
SeenBut places None None = Unit {0}
SeenBut places _ _ = ⊥

-- The time of a disk: the moment now, the moments up to now, and which images a stop at some moment since one may leave.
pub record Time : Type 1 where
  pub moment : Moment
  pub has_been : Moment → Type 0
  pub left_since : Moment → Image → Type 0

-- Time continues: since a moment that has been, a stop may leave what it might have left before, or a fresh image.
pub record GoesOn (old new : Time) (fresh : Image → Type 0) : Type 0 where
  pub begins : old.has_been old.moment
  pub past : (t : Moment) → old.has_been t → new.has_been t
  pub keeps : (t : Moment) (c : Image) → old.has_been t → old.left_since t c → new.left_since t c
  pub nothing_else : (t : Moment) (c : Image) → old.has_been t → new.left_since t c → old.left_since t c ⊎ fresh c
  -- the same for what a stop may leave now
  pub now : (c : Image) → new.left_since new.moment c → old.left_since old.moment c ⊎ fresh c

-- no image is fresh
abbrev pub no_image : Image → Type 0
no_image c = ⊥

-- one of these images, with any bytes at these places
abbrev pub TornAt : (ℕ → Type 0) → (Image → Type 0) → Image → Type 0
TornAt places now c = (d : Image) × now d × SameBut places d c

-- a stop that may leave these images leaves what reads give and nothing else
abbrev pub OnlySeen : Option Image → (Image → Type 0) → Type 0
OnlySeen told now = (c : Image) → now c → told ≡ Some c

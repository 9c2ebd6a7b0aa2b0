-- What a disk made of two gives, and what a stop leaves of it.
use Rattle.std.specs.Prelude.{◌≡◌, ◌⊎◌, ℕ, Bool, IsTrue, take, Option, Some, None}
use Rattle.{mg_disk.specs.Disk.{Image, Moment, Time, At, Both, Alone}, mg_mirror.specs.declared.mirror.Side.Side}
use Rattle.mg_mirror.specs.declared.mirror.Side.TheVariants.{Left, Right}

-- what the first gives, if both are told, cut to n blocks
abbrev pub told_cut : ℕ → Option Image → Option Image → Option Image
told_cut n (Some x) (Some y) = Some (take n x)
told_cut n (Some x) None = None
told_cut n None o = None

-- what reads give: what the left gives while it is in use
abbrev pub seen_of : ℕ → Option Side → Option Image → Option Image → Option Image
seen_of n None l r = told_cut n l r
seen_of n (Some Left) l r = told_cut n l r
seen_of n (Some Right) l r = told_cut n r l

-- while both sides are in use both give the same
abbrev pub SameWhileBoth : ℕ → Option Side → Option Image → Option Image → Type 0
SameWhileBoth n alone l r = alone ≡ None → told_cut n l r ≡ told_cut n r l

-- the moment: those of both sides, or that of the one in use
abbrev pub moment_of : Option Side → Moment → Moment → Moment
moment_of None l r = Both l r
moment_of (Some Left) l r = Alone l
moment_of (Some Right) l r = Alone r

-- the moments that have been
abbrev pub Been : Option Side → (Moment → Type 0) → (Moment → Type 0) → Moment → Type 0
Been alone l r (At k) = ⊥
Been alone l r (Both x y) = l x × r y
Been None l r (Alone x) = ⊥
Been (Some Left) l r (Alone x) = l x
Been (Some Right) l r (Alone x) = r x

-- one of these images, cut to n blocks
pub record CutOf (n : ℕ) (images : Image → Type 0) (c : Image) : Type 0 where
  pub whole : Image
  pub is_one : images whole
  pub cut : c ≡ take n whole

-- what a stop since a moment may leave of the sides in use
abbrev pub Since : ℕ → Option Side → (Moment → Image → Type 0) → (Moment → Image → Type 0) → Moment → Image → Type 0
Since n alone l r (At k) c = ⊥
Since n alone l r (Both x y) c = CutOf n (l x) c ⊎ CutOf n (r y) c
Since n None l r (Alone x) c = ⊥
Since n (Some Left) l r (Alone x) c = CutOf n (l x) c
Since n (Some Right) l r (Alone x) c = CutOf n (r x) c

-- the same, if both sides are told
abbrev pub LeftSince : ℕ → Option Side → Bool → (Moment → Image → Type 0) → (Moment → Image → Type 0) → Moment → Image → Type 0
LeftSince n alone told l r t c = IsTrue told × Since n alone l r t c

-- the time of a disk made of two
abbrev pub two_times : ℕ → Option Side → Bool → Time → Time → Time
two_times n alone told left right = record {
  moment = moment_of alone left.moment right.moment;
  has_been = Been alone left.has_been right.has_been;
  left_since = LeftSince n alone told left.left_since right.left_since;
}

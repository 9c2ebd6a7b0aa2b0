-- The replay by which a `MemDisk` knows what a stop at each of its moments may leave.
use Rattle.std.specs.Prelude.{◌≤◌, ℕ, List, [], ◌∷◌, ◌++◌, length, take, slice_set, Contains}
use Rattle.mg_disk.specs.{Disk.{Image, Moment, At, Both, Alone, SameBut, Time}, declared.memory.Event.Event}
use Rattle.mg_disk.specs.declared.memory.Event.TheVariants.{Wrote, Synced}

-- what the last good sync left, what reads give, and the places written since
pub record Held : Type 0 where
  pub base : Image
  pub now : Image
  pub touched : List ℕ

-- a disk that holds this image, with no call yet
abbrev pub start : Image → Held
start first = record { base = first; now = first; touched = [] }

-- a write, or a good sync
abbrev pub after : Held → Event → Held
after h (Wrote i b) = record { base = h.base; now = slice_set h.now i b; touched = h.touched ++ i ∷ [] }
after h Synced = record { base = h.now; now = h.now; touched = [] }

abbrev pub run : Held → List Event → Held
run h [] = h
run h (e ∷ es) = run (after h e) es

-- a stop leaves any bytes in the places written since the last good sync
abbrev pub MayLeave : Held → Image → Type 0
MayLeave h c = SameBut (Contains h.touched) h.base c

-- the moments of a disk with these events: the number of the events, and each number below it
abbrev pub BeenIn : List Event → Moment → Type 0
BeenIn events (At t) = t ≤ length events
BeenIn events (Both x y) = ⊥
BeenIn events (Alone x) = ⊥

-- at some moment since that one a stop may leave this image
abbrev pub LeftIn : Image → List Event → Moment → Image → Type 0
LeftIn first events (At t) c = (k : ℕ) × (t ≤ k) × (k ≤ length events) × MayLeave (run (start first) (take k events)) c
LeftIn first events (Both x y) c = ⊥
LeftIn first events (Alone x) c = ⊥

-- the time of such a disk
abbrev pub time_of : Image → List Event → Time
time_of first events = record { moment = At (length events); has_been = BeenIn events; left_since = LeftIn first events }

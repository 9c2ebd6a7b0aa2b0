-- What recovery does to an image: homes are written, and then the gates are closed first to last.
use Rattle.std.specs.Prelude.{◌≡◌, ◌⊎◌, ◌≤◌, ◌<◌, ℕ, true, false, List, Some}
use Rattle.{mg_disk.specs.Disk.{Image, SameBut, only_place}, mg_journal.specs.{Applied.filled, Contents.InJournal}}
use Rattle.mg_journal.specs.{Contents.{SameContents, names}, JournalLemmas.open_writes, Standing.AllClosed}
use Rattle.mg_model.specs.{Abbreviations.segments_fit, Layout.{segment_count, segment_gate}, Replay.{is_open, replay}}
use Rattle.mg_model.specs.Replay.{written}

-- the journal can be replayed, and the bodies at these places, written to their homes in order, make the homes that open
-- segments name what a replay makes them, and no other block
pub record Settles (total : ℕ) (places : List (ℕ × ℕ)) (image : Image) : Type 0 where
  pub fit : segments_fit total image 0 segment_count ≡ true
  pub whole : written image (filled image places) ≡ written image (open_writes image)
  pub named : (k : ℕ) → names (filled image places) k ≡ true → names (open_writes image) k ≡ true

-- the segments from s on and before n are open
abbrev pub AreOpen : ℕ → ℕ → Image → Type 0
AreOpen s n image = (t : ℕ) → s ≤ t → t < n → is_open image t ≡ true

-- while a gate is closed: nothing has changed, or any bytes are in that gate, which was open
abbrev pub MayCloseOne : ℕ → Image → Image → Type 0
MayCloseOne s a c = (c ≡ a) ⊎ ((is_open a s ≡ true) × SameBut (only_place (segment_gate s)) a c)

-- once it is closed
pub record ClosedOne (s : ℕ) (a b : Image) : Type 0 where
  pub may : MayCloseOne s a b
  pub shut : is_open b s ≡ false

-- b is its own replay, and differs from a within the journal alone
pub record IsStill (total : ℕ) (a b : Image) : Type 0 where
  pub own : replay b total ≡ Some b
  pub same : SameBut InJournal a b

-- so it is, and the segments before s are closed
pub record IsClosedUpTo (s total : ℕ) (a b : Image) : Type 0 where
  pub still : IsStill total a b
  pub shut : (t : ℕ) → t < s → is_open b t ≡ false

-- while the gates are closed of an image that is its own replay, and once those before s are
abbrev pub StaysStill : Image → Image → Type 0
StaysStill a b = (total : ℕ) → replay a total ≡ Some a → IsStill total a b

abbrev pub ClosesUpTo : ℕ → Image → Image → Type 0
ClosesUpTo s a b = (total : ℕ) → replay a total ≡ Some a → IsClosedUpTo s total a b

-- the contents of b are those of a, and no segment of b is open
pub record IsRecovered (total : ℕ) (a b : Image) : Type 0 where
  pub contents : SameContents total a b
  pub closed : AllClosed b

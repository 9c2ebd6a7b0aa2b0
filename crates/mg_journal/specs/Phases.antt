-- What the phases of a commit write.
use Rattle.std.specs.Prelude.{◌≡◌, ◌+◌, ◌≤◌, ◌<◌, ℕ, true, List, length}
use Rattle.{mg_disk.specs.Disk.{Image, SameBut}, mg_journal.specs.Contents.{NewContents, bodies_of}}
use Rattle.mg_model.specs.{Layout.segment_gate, Replay.{body_count, is_open}}

-- block k is the index or a body of this segment
abbrev pub IsBehind : ℕ → ℕ → Type 0
IsBehind s k = (segment_gate s < k) × (k < segment_gate (s + 1))

-- the image b has these writes in a segment, and is otherwise as a
pub record HoldsWrites (s : ℕ) (writes : List (ℕ × List ℕ)) (a b : Image) : Type 0 where
  pub same : SameBut (IsBehind s) a b
  pub count : body_count b s ≡ length writes
  pub bodies : bodies_of b s ≡ writes

-- block k is the gate, the index or a body of this segment
abbrev pub IsIn : ℕ → ℕ → Type 0
IsIn s k = (segment_gate s ≤ k) × (k < segment_gate (s + 1))

-- the image b has this segment open with these writes, is otherwise as a, and has the contents of a with the writes over them
pub record IsNext (total s : ℕ) (writes : List (ℕ × List ℕ)) (a b : Image) : Type 0 where
  pub contents : NewContents total a writes b
  pub same : SameBut (IsIn s) a b
  pub opened : is_open b s ≡ true
  pub count : body_count b s ≡ length writes
  pub bodies : bodies_of b s ≡ writes

-- What the journal keeps: the blocks after replay, the segments' own blocks left aside.
use Rattle.std.specs.Prelude.{◌≡◌, ◌+◌, ◌≤◌, ◌<◌, ◌==◌, ◌&&◌, ◌||◌, nat_le, ℕ, Bool, false, List, [], ◌∷◌, option_map}
use Rattle.{mg_disk.specs.Disk.{Image, SameBut, SeenBut}, mg_model.specs.{Abbreviations.writes_from, Layout.body_limit}}
use Rattle.mg_model.specs.{Layout.{globals_block, segment_count, segment_gate}, Replay.{block_of, body_count}}
use Rattle.mg_model.specs.Replay.{homes_fit, is_open, replay, written}

-- the segments' own blocks
abbrev pub InJournal : ℕ → Type 0
InJournal k = (2 ≤ k) × (k < globals_block)

-- both replays give none, or both give the same blocks outside the segments
abbrev pub SameContents : ℕ → Image → Image → Type 0
SameContents total a b = SeenBut InJournal (replay a total) (replay b total)

-- the replay of b is that of a with these writes over it, outside the segments
abbrev pub NewContents : ℕ → Image → List (ℕ × List ℕ) → Image → Type 0
NewContents total a writes b = SeenBut InJournal (option_map (λ r. written r writes) (replay a total)) (replay b total)

-- whether one of these writes goes to block k
abbrev pub names : List (ℕ × List ℕ) → ℕ → Bool
names [] k = false
names ((i, block) ∷ writes) k = (i == k) || names writes k

-- block k is the index or a body of a closed segment
pub record InClosed (a : Image) (k : ℕ) : Type 0 where
  pub segment : ℕ
  pub few : segment < segment_count
  pub shut : is_open a segment ≡ false
  pub above : segment_gate segment < k
  pub below : k < segment_gate (segment + 1)

-- all that a segment has in its index and bodies, whether its gate is open or not
abbrev pub bodies_of : Image → ℕ → List (ℕ × List ℕ)
bodies_of image s = writes_from image s 0 (body_count image s)

-- these would be replayed, if the gate were open
abbrev pub bodies_fit : ℕ → Image → ℕ → Bool
bodies_fit total image s = nat_le (body_count image s) body_limit && homes_fit total (bodies_of image s)

-- b is a with every segment before m closed, whatever else is in these
pub record ClosedBelow (m : ℕ) (a b : Image) : Type 0 where
  pub journal : SameBut InJournal a b
  pub shut : (s : ℕ) → s < m → is_open b s ≡ false
  pub rest : (s : ℕ) → m ≤ s → s < segment_count → (k : ℕ) → segment_gate s ≤ k → k < segment_gate (s + 1) → block_of b k ≡ block_of a k

-- The objects that are reached from a start, by their ranks.
use Rattle.std.specs.Prelude.{◌≡◌, ℕ, ◌<◌, ◌≤◌, ◌==◌, ◌&&◌, List, [], if◌then◌else◌, length, slice_index}
use Rattle.std.specs.Prelude.{slice_index_or}
use Rattle.{mg_disk.specs.Disk.Image, mg_model.specs.{Rights.has_right, State.ObjectRow}}
use Rattle.{mg_model.specs.declared.rights.Right.TheVariants.R, mg_show.specs.DotFrom.{is_among, reached}}
use Rattle.mg_show.specs.{DotText.is_list, Marking.is_within, Reached.{by_place, listed}, Shown.{bare, state_shown}}
use Rattle.mg_show.specs.declared.held.Shown.{Shown}

-- the ranks up to n are those of what is reached, and there are no others
pub record AreRanked (shown : Shown) (r : Image) (bases : List ℕ) (n : ℕ) (ranks : List ℕ) : Type 0 where
  pub is : (i : ℕ) → i < length shown.objects → (d : ℕ × ObjectRow) → (k : ℕ) → k ≤ n
      → is_within (slice_index ranks i) k ≡ is_among (reached (state_shown shown r) bases k) (slice_index_or shown.objects i d).1.base
  pub few : (i : ℕ) → i < length shown.objects → (k : ℕ) → n ≤ k → is_within (slice_index ranks i) k ≡ is_within (slice_index ranks i) n

-- the entries of the lists with this rank, where the bytes have R for the lists
abbrev pub listed_at : Shown → Image → List ℕ → List ℕ → ℕ → List (ℕ × ObjectRow) → List (ℕ × ℕ)
listed_at shown r bytes ranks rank objects =
    by_place (λ i row. if slice_index ranks i == rank && has_right (slice_index bytes i) R then listed shown r row else []) 0 objects

-- a byte has R for each object that some thread reads as a list
abbrev pub AreOpened : Shown → List ℕ → Type 0
AreOpened shown bytes = (i : ℕ) → i < length shown.objects → (d : ℕ × ObjectRow)
    → has_right (slice_index bytes i) R ≡ is_list (bare shown) (slice_index_or shown.objects i d).1

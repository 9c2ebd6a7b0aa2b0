-- The blocks of a volume, changed, and what pages keep.
use Rattle.std.specs.Prelude.{◌≡◌, ◌≤◌, ℕ, true, List, length}
use Rattle.{mg_journal.specs.Staged.are_once, mg_model.specs.{Layout.{body_limit, total_blocks}, Replay.homes_fit}}
use Rattle.{mg_model.specs.{Tests.all_distinct, Volume.bound_pages}, mg_pages.specs.declared.blocks.Blocks.Blocks}

-- these blocks with other writes
abbrev pub with_writes : Blocks → List (ℕ × List ℕ) → Blocks
with_writes b writes = record { store = b.store; writes = writes; kept = b.kept; blank = b.blank }

-- a volume of this many blocks has this many frames, 16 to 65,536
pub record HasFrames (total frames : ℕ) : Type 0 where
  pub some : 16 ≤ frames
  pub few : frames ≤ 65536
  pub size : total ≡ total_blocks frames

-- what the pages of a volume keep, of the places of the volume, the page of each frame and the writes that wait
pub record IsSound (total : ℕ) (frames : List ℕ) (writes : List (ℕ × List ℕ)) : Type 0 where
  pub some : 16 ≤ length frames
  pub few : length frames ≤ 65536
  pub size : total ≡ total_blocks (length frames)
  pub distinct : all_distinct (bound_pages frames) ≡ true
  pub waiting : length writes ≤ body_limit
  pub homes : homes_fit total writes ≡ true
  pub once : are_once writes ≡ true

-- Lemmas on what a migration leaves, for crates above.
use Rattle.std.specs.Prelude.{Option, Some, None}
use Rattle.{mg_disk.specs.{Disk.Image, declared.disk.Disk.Ghosts}, mg_migrate.specs.Copied.{HoldsNow, ReadsNow}}
use Rattle.mg_migrate.specs.{Migrated.{HasLifted, IsLiftOf, IsMigrated}, Version1.volume1}

-- what reads give has what follows of what it has
pub reads-wider : (P Q : Image → Type 0) → ((c : Image) → P c → Q c) → (old new : Option Image) → ReadsNow P old new → ReadsNow Q old new
reads-wider P Q then None new is = is
reads-wider P Q then (Some before) None is = absurd is
reads-wider P Q then (Some before) (Some c) is = then c is

module _ {D : Type 0} (facts : Ghosts D) (old new : D) where
  holds-wider : (P Q : Image → Type 0) → ((c : Image) → P c → Q c) → HoldsNow facts P old new → HoldsNow facts Q old new
  holds-wider P Q then now = record { reads = reads-wider P Q then (facts.seen old) (facts.seen new) now.reads; left = λ c left. then c (now.left c left) }

  -- the state, and the blocks
  pub state-now : (before : Image) → HoldsNow facts (IsMigrated before) old new → HoldsNow facts (IsLiftOf (volume1 before)) old new
  state-now before = holds-wider (IsMigrated before) (IsLiftOf (volume1 before)) (λ c is. is.state)

  pub blocks-now : (before : Image) → HoldsNow facts (IsMigrated before) old new → HoldsNow facts (HasLifted before) old new
  blocks-now before = holds-wider (IsMigrated before) (HasLifted before) (λ c is. is.blocks)

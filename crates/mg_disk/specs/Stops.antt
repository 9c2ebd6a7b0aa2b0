-- What the layers above say of a disk, each in one word. The trait's members are one value, `D.Disk` in a clause.
use Rattle.std.specs.Prelude.{◌≡◌, ◌⊎◌, OnErr, Result}
use Rattle.mg_disk.specs.{Disk.{Image, GoesOn, no_image, OnlySeen}, declared.disk.Disk.Ghosts}
use Rattle.mg_faults.specs.Faults.{CountGoesOn, Rose}

-- nothing is pending: a stop now leaves what reads give and nothing else
abbrev pub NothingPending : {D : Type 0} → Ghosts D → D → Type 0
NothingPending facts disk = OnlySeen (facts.seen disk) ((facts.time disk).left_since (facts.time disk).moment)

-- time continued from old to new, and these images are fresh
abbrev pub TimeGoes : {D : Type 0} → Ghosts D → D → D → (Image → Type 0) → Type 0
TimeGoes facts old new fresh =
    GoesOn (facts.time old) (facts.time new) fresh

-- at each moment since old, each image that a stop may leave has P
pub record Leaves {D : Type 0} (facts : Ghosts D) (old new : D) (P : Image → Type 0) : Type 0 where
  pub each : (c : Image) → (facts.time new).left_since (facts.time old).moment c → P c
  -- for a run that began earlier
  pub time : TimeGoes facts old new P

-- as a run began, a stop might have left this image
abbrev pub MightHaveLeft : {D : Type 0} → Ghosts D → D → Image → Type 0
MightHaveLeft facts old c = (facts.time old).left_since (facts.time old).moment c

-- so it might, or the image has P
abbrev pub LeftOr : {D : Type 0} → Ghosts D → D → (Image → Type 0) → Image → Type 0
LeftOr facts old P c = MightHaveLeft facts old c ⊎ P c

-- the image comes by R from one that a stop might have left as the run began
abbrev pub FromLeft : {D : Type 0} → Ghosts D → D → (Image → Image → Type 0) → Image → Type 0
FromLeft facts old R c = (a : Image) × MightHaveLeft facts old a × R a c

-- no write was made: reads give what they gave, and a stop may leave what it might have left
pub record WritesNothing {D : Type 0} (facts : Ghosts D) (old new : D) : Type 0 where
  pub same : facts.seen new ≡ facts.seen old
  pub stops : TimeGoes facts old new no_image

-- the count of faults has not fallen, and if it was at its last value it still is
abbrev pub CountGoes : {D : Type 0} → Ghosts D → D → D → Type 0
CountGoes facts old new = CountGoesOn (facts.faults old) (facts.faults new) (facts.is_spent old) (facts.is_spent new)

-- the count of faults rose, or is at its last value at the end
abbrev pub CountRose : {D : Type 0} → Ghosts D → D → D → Type 0
CountRose facts old new = Rose (facts.faults old) (facts.faults new) (facts.is_spent new)

-- The facts of every run of calls, whatever they read or write: the count of faults has not fallen, the number of blocks is
-- the same, and if the run failed the count rose.
pub record DiskCallsBy {D : Type 0} (facts : Ghosts D) (old new : D) (failed : Type 0) : Type 0 where
  pub count : CountGoes facts old new
  pub blocks : facts.block_count new ≡ facts.block_count old
  pub cause : failed → CountRose facts old new

-- the same facts when each error is a call of the disk that failed
pub record DiskCalls {D T E : Type 0} (facts : Ghosts D) (old new : D) (result : Result T E) : Type 0 where
  pub count : CountGoes facts old new
  pub blocks : facts.block_count new ≡ facts.block_count old
  pub cause : OnErr result (CountRose facts old new)

-- What is said of a migration: by its answer, and of what a stop may leave on the new disk.
use Rattle.std.specs.Prelude.{◌≡◌, ◌⊎◌, ℕ, ◌<◌, ◌≤◌, Result, Ok, Err}
use Rattle.{mg_check.specs.{Summaries.summary_of, declared.examining.Summary.Summary}, mg_disk.specs.Disk.Image}
use Rattle.{mg_layout.specs.MayFormat.{IsNoState, opened}, mg_migrate.specs.Lifted.{IsLifted, IsReplayed1}}
use Rattle.mg_migrate.specs.Version1.{Damaged1, Is1, NewVolume1, NotVolume1, OldVolume1, Volume1Read, lift, volume1}
use Rattle.{mg_migrate.specs.declared.migrating.MigrateFault.MigrateFault, mg_model.specs.Layout.total_blocks}
use Rattle.mg_model.specs.{Settings.Settings, State.State, Volume.{Is, volume}}
use Rattle.mg_migrate.specs.declared.migrating.MigrateFault.TheVariants as fault

-- the old image is a volume of version 1, and its state has P
abbrev pub IsState1 : Volume1Read → (State → Type 0) → Type 0
IsState1 (Is1 state) P = P state
IsState1 _ P = ⊥

-- the blocks that a volume with this state needs
abbrev pub needed : State → ℕ
needed state = total_blocks state.settings.frames

-- the old image is a volume of version 1, and a disk with this number of blocks has room for it
abbrev pub Fits1 : ℕ → Volume1Read → Type 0
Fits1 have old = IsState1 old (λ state. needed state ≤ have)

-- What an answer says of the old image and of how many blocks the new disk has. A failed call of the old disk and a lack of memory say
-- nothing; a failed call of the new disk says that the volume fits there.
abbrev pub Tells1 : Result Summary MigrateFault → ℕ → Volume1Read → Type 0
Tells1 (Ok summary) have old = IsState1 old (λ state. (summary ≡ summary_of (lift state)) × (needed state ≤ have))
Tells1 (Err fault.OldDisk) have old = Unit {0}
Tells1 (Err fault.Not) have old = old ≡ NotVolume1
Tells1 (Err fault.Old) have old = old ≡ OldVolume1
Tells1 (Err fault.New) have old = old ≡ NewVolume1
Tells1 (Err fault.Damaged) have old = old ≡ Damaged1
Tells1 (Err (fault.TooSmall need h)) have old = IsState1 old (λ state. (need ≡ needed state) × (h ≡ have) × (have < need))
Tells1 (Err fault.Memory) have old = Unit {0}
Tells1 (Err fault.NewDisk) have old = Fits1 have old

-- it spells the state of the old image with passwords that never end
abbrev pub IsLiftOf : Volume1Read → Image → Type 0
IsLiftOf old c = IsState1 old (λ state. volume c ≡ Is (lift state))

-- After an open gate it has the blocks of the old image, once that one's journal is replayed, each lifted and in its place: so rows
-- and frames keep their numbers.
pub record HasLifted (old c : Image) : Type 0 where
  pub settings : Settings
  pub replayed : Image
  pub is : IsReplayed1 settings old replayed
  pub lifted : IsLifted settings replayed c

-- what a migration makes of the old image: the new one spells its state, lifted, and has its blocks
pub record IsMigrated (old c : Image) : Type 0 where
  pub state : IsLiftOf (volume1 old) c
  pub blocks : HasLifted old c

-- no state, what the blocks after the gate of the new disk spelled before, or the old state with passwords that never end
abbrev pub MayMigrate : Image → Volume1Read → Image → Type 0
MayMigrate image old c = IsNoState (volume c) ⊎ ((volume c ≡ volume (opened image)) ⊎ IsLiftOf old c)

-- After these answers no call was made on the new disk. Of a failed read of the old disk, which may come after calls of the new
-- one, `StandsBack` and the clause `closed` of `migrate` speak.
abbrev pub IsUntouched : {D : Type 0} → D → D → Result Summary MigrateFault → Type 0
IsUntouched old new (Ok summary) = Unit {0}
IsUntouched old new (Err fault.OldDisk) = Unit {0}
IsUntouched old new (Err fault.NewDisk) = Unit {0}
IsUntouched old new _ = new ≡ old

-- No call was made on the new disk, whatever the answer is, if the old image is no volume of version 1 that fits there.
abbrev pub StandsBack : {D : Type 0} → ℕ → Volume1Read → D → D → Type 0
StandsBack have before old new = (Fits1 have before → ⊥) → new ≡ old

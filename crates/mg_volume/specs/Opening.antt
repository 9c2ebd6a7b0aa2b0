-- What an opening and a commit give, and what an opening leaves alone.
use Rattle.std.specs.{Option.ForSome, Prelude.{◌≡◌, ◌≢◌, IsTrue, Err, Option, Result, Some, true}}
use Rattle.mg_check.specs.declared.examining.OpenFault.{OpenFault, TheVariants.{Damaged, Not, Old}}
use Rattle.mg_disk.specs.{Disk.Image, Stops.WritesNothing, declared.disk.Disk.Ghosts}
use Rattle.{mg_layout.specs.MayFormat.IsNoState, mg_model.specs.{State.State, Volume.{Is, VolumeRead, volume}}}
use Rattle.mg_volume.specs.{Held.VolumeHeld, Meaning.{StandsOn, is_live, is_sound, now_of, staged_of}}

-- reads give an image that spells this state, and it is the volume's
pub record Holds (state : State) (v : VolumeHeld) (told : Option Image) : Type 0 where
  pub image : Image
  pub is : told ≡ Some image
  pub kept : volume image ≡ Is state
  pub now : now_of v image ≡ state

-- the image that reads give after a commit spells the state that the volume had over the one before, and the volume has it still
pub record IsSaved (old new : VolumeHeld) (image now : Image) : Type 0 where
  pub kept : volume now ≡ Is (now_of old image)
  pub now_is : now_of new now ≡ now_of old image

-- the image that was opened is a volume, and the value has its state
pub record Opens (before : VolumeRead) (v : VolumeHeld) (told : Option Image) : Type 0 where
  pub state : State
  pub is : before ≡ Is state
  pub holds : Holds state v told

-- when reads gave no volume, nothing was written
abbrev pub WritesOnlyVolumes : {D : Type 0} → Ghosts D → D → D → Type 0
WritesOnlyVolumes facts old new = ForSome (facts.seen old) (λ image. IsNoState (volume image) → WritesNothing facts old new)

-- The volume was opened: it has the state of the image that was told, and stands on the disk; it is sound, nothing is staged, and no
-- commit has failed.
pub record IsOpened {D : Type 0} (facts : Ghosts D) (told : Option Image) (v : VolumeHeld) (disk : D) : Type 0 where
  pub opens : ForSome told (λ image. Opens (volume image) v (facts.seen disk))
  pub stands : StandsOn facts v disk
  pub sound : (image : Image) → is_sound (now_of v image) ≡ true
  pub staged : staged_of v ≡ 0
  pub live : IsTrue (is_live v)

-- the answer finds no fault with the image: it is not that there is no volume, an older one, or a damaged one
pub record JudgesNothing {T : Type 0} (result : Result T OpenFault) : Type 0 where
  pub no_not : result ≢ Err Not
  pub no_old : result ≢ Err Old
  pub no_damaged : result ≢ Err Damaged

-- a disk that an opening refused: reads give this kind of no volume, and nothing was written
pub record Refuses {D : Type 0} (facts : Ghosts D) (read : VolumeRead) (old new : D) : Type 0 where
  pub is : ForSome (facts.seen old) (λ image. volume image ≡ read)
  pub untouched : WritesNothing facts old new

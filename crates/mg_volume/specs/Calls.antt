-- Words for what a call does to a volume, and for what it replies.
use Rattle.std.specs.{Option.ForSome, Prelude.{◌≡◌, ◌+◌, ◌≤◌, ℕ, true, Option}}
use Rattle.mg_disk.specs.{Disk.Image, Stops.{CountGoes, WritesNothing}, declared.disk.Disk.Ghosts}
use Rattle.mg_model.specs.{Access.allowed, Counts.CountsAlike, FewSlots.{HasFewSlots, IsRefusal}, ObjectCalls.row_at}
use Rattle.mg_model.specs.{Refused.Answer, State.{ObjectRow, State}, WellFormed.IsWellFormed}
use Rattle.{mg_model.specs.declared.{replies.Reply.Reply, rights.Right.Right}, mg_volume.specs.Held.VolumeHeld}
use Rattle.mg_volume.specs.Meaning.{IsSpelledBy, Keeps, SameRows, SameShape, StandsOn, is_live, is_sound, now_of}
use Rattle.mg_volume.specs.{Meaning.{objects_in, staged_of, words_in}, Staging.{ObjectsStillStaged, StillStaged}}

-- At most `most` blocks more are staged, and none fewer, without the disk: the volume is spelled where it was, and what waited
-- waits still.
pub record Stages (most : ℕ) (old new : VolumeHeld) : Type 0 where
  pub shape : SameShape old new
  pub spelled : (image : Image) → IsSpelledBy old image → IsSpelledBy new image
  pub least : staged_of old ≤ staged_of new
  pub staged : staged_of new ≤ staged_of old + most
  pub still : StillStaged old new

-- the state that a volume has, and the reply, are those that a row of the definition gives for the state that it had
abbrev pub Answers : (State → Answer) → VolumeHeld → VolumeHeld → Reply → Type 0
Answers call old new reply = (image : Image) → IsSpelledBy old image → IsWellFormed (now_of old image) → call (now_of old image) ≡ (now_of new image, reply)

-- the same of a call on an object, if an address names the object and the thread has the right to it
abbrev pub Acts : (State → ℕ → ℕ → Answer) → Right → ObjectRow → VolumeHeld → VolumeHeld → Reply → Type 0
Acts call right object old new reply =
    (image : Image) (t a : ℕ) → IsSpelledBy old image → IsWellFormed (now_of old image) → row_at (now_of old image) a ≡ object → allowed (now_of old image) t a right ≡ true → call (now_of old image) t a ≡ (now_of new image, reply)

-- What a call without the disk does: the state and the reply are those of its row, at most `most` blocks more are staged, and
-- when it is refused the volume stays.
pub record CallStages (Row : VolumeHeld → VolumeHeld → Reply → Type 0) (most : ℕ) (old new : VolumeHeld) (reply : Reply) : Type 0 where
  pub answers : Row old new reply
  pub stages : Stages most old new
  pub refused : IsRefusal reply → new ≡ old
  pub slots : HasFewSlots reply

-- the volume stands on the disk, and its state is well formed
pub record IsSoundOn {D : Type 0} (facts : Ghosts D) (v : VolumeHeld) (disk : D) : Type 0 where
  pub stands : StandsOn facts v disk
  pub formed : ForSome (facts.seen disk) (λ image. IsWellFormed (now_of v image))

-- Some words were read, and nothing else happened: the state and what is staged are as they were, nothing was written, and
-- both counts of words rose alike.
pub record Reads {D : Type 0} (facts : Ghosts D) (old new : VolumeHeld) (before after : D) (steps steps' : ℕ) : Type 0 where
  pub keeps : Keeps old new
  pub rows : objects_in new ≡ objects_in old
  pub still : StillStaged old new
  pub stands : StandsOn facts new after
  pub sound : IsSoundOn facts old before → IsSoundOn facts new after
  pub writes : WritesNothing facts before after
  pub counted : CountsAlike (words_in old) (words_in new) steps steps'
  pub count : CountGoes facts before after
  pub blocks : facts.block_count after ≡ facts.block_count before

-- Words were read, and perhaps blocks staged: at most `most` more and none fewer, and what waited waits still. Nothing was
-- written.
pub record Serves {D : Type 0} (most : ℕ) (facts : Ghosts D) (old new : VolumeHeld) (before after : D) (steps steps' : ℕ) : Type 0 where
  pub stands : StandsOn facts new after
  pub writes : WritesNothing facts before after
  pub live : is_live new ≡ is_live old
  pub least : staged_of old ≤ staged_of new
  pub staged : staged_of new ≤ staged_of old + most
  pub still : StillStaged old new
  pub counted : CountsAlike (words_in old) (words_in new) steps steps'
  pub count : CountGoes facts before after
  pub blocks : facts.block_count after ≡ facts.block_count before

-- All that does not lie in pages is as it was, and as sound; the objects' rows that waited wait still.
pub record KeepsRows (told : Option Image) (old new : VolumeHeld) : Type 0 where
  pub same : SameRows old new
  pub sound : ForSome told (λ image. is_sound (now_of new image) ≡ is_sound (now_of old image))
  pub objects : ObjectsStillStaged old new

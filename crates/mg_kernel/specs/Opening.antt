-- What an opening and a commit give.
use Rattle.std.specs.{Option.ForSome, Prelude.{◌≡◌, ◌⊎◌, IsTrue, None, OnOk, Option, Result, Some, replicate}}
use Rattle.{mg_disk.specs.{Disk.Image, Stops.Leaves, declared.disk.Disk.Ghosts}, mg_kernel.specs.Meaning.StandsOn}
use Rattle.mg_kernel.specs.{Meaning.{is_live, now_of, seats_in, staged_of}, declared.kernel.Kernel.Kernel}
use Rattle.mg_model.specs.{Limits.seat_count, State.State, Volume.{Is, VolumeRead, volume}}
pub use Rattle.mg_volume.specs.Opening.{Refuses}

-- reads give an image that spells this state, and it is the kernel's
pub record Holds (state : State) (k : Kernel) (told : Option Image) : Type 0 where
  pub image : Image
  pub is : told ≡ Some image
  pub kept : volume image ≡ Is state
  pub now : now_of k image ≡ state

-- the image that was opened is a volume, and the kernel has its state
pub record Opens (before : VolumeRead) (k : Kernel) (told : Option Image) : Type 0 where
  pub state : State
  pub is : before ≡ Is state
  pub holds : Holds state k told

-- A kernel that was just opened: it is live and stands on the disk, nothing is staged, and no right is kept.
pub record Starts {D : Type 0} (facts : Ghosts D) (k : Kernel) (disk : D) : Type 0 where
  pub live : IsTrue (is_live k)
  pub stands : StandsOn facts k disk
  pub none_staged : staged_of k ≡ 0
  pub none_kept : seats_in k ≡ replicate seat_count None

-- A commit makes the state of now durable: a stop leaves the state of before or this one, and after Ok reads give this one.
pub record Saves {D T E : Type 0} (facts : Ghosts D) (result : Result T E) (k k' : Kernel) (old new : D) : Type 0 where
  pub any_moment : ForSome (facts.seen old) (λ image. Leaves facts old new (λ c. (volume c ≡ volume image) ⊎ (volume c ≡ Is (now_of k image))))
  pub done : OnOk result (ForSome (facts.seen old) (λ image. Holds (now_of k image) k' (facts.seen new)))

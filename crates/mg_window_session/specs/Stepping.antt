-- What a line does to a kernel and the devices beside it.
use Rattle.std.specs.{Option.ForSome, Prelude.{ℕ, ◌≡◌, List, [], ◌∷◌, Bool, filter, if◌then◌else◌, is_some, map}}
use Rattle.{mg_disk.specs.{Disk.Image, declared.disk.Disk.Ghosts}, mg_kernel.specs.Meaning.{now_of, staged_of}}
use Rattle.{mg_kernel.specs.{Serving.Serves, declared.kernel.Kernel.Kernel}, mg_model.specs.Access.based_at}
use Rattle.{mg_model.specs.{State.State, declared.replies.Reply.Reply}, mg_window.specs.Attached.{Attached, without}}
use Rattle.{mg_window.specs.Devices.Held, mg_window_session.specs.Machine.{Equipped, Outcome}}

-- whether an object has this base
abbrev pub is_base : State → ℕ → Bool
is_base s base = is_some (based_at s.objects base)

-- the bases of devices that are bases of objects
abbrev pub bases_of : State → Attached → List ℕ
bases_of s windows = filter (λ base. is_base s base) (map (λ (window : ℕ × Held). window.0) windows)

-- the devices without those at these bases that are bases no more
abbrev pub dropped : State → List ℕ → Attached → Attached
dropped s [] windows = windows
dropped s (base ∷ bases) windows = dropped s bases (if is_base s base then windows else without windows base)

-- the machine that a kernel and devices are
abbrev pub machine : Kernel → Attached → Image → Equipped
machine k windows image = record { state = now_of k image; windows = windows }

-- when reads were told, the machine after the call and the reply are those of this step
pub record IsAnswered {D : Type 0} (facts : Ghosts D) (does : Equipped → Outcome) (k k' : Kernel) (windows windows' : Attached) (disk : D) (answer : Reply) : Type 0 where
  pub told : ForSome (facts.seen disk) (λ image. (machine k' windows' image, answer) ≡ does (machine k windows image))

-- whatever comes of a call that leaves the state as it is
pub record Looks {D : Type 0} (facts : Ghosts D) (k k' : Kernel) (disk disk' : D) (steps steps' : ℕ) : Type 0 where
  pub same : ForSome (facts.seen disk) (λ image. now_of k' image ≡ now_of k image)
  pub staged : staged_of k' ≡ staged_of k
  pub serves : Serves facts k k' disk disk' steps steps'

-- What a new thread is, by the row of its maker.
use Rattle.std.specs.Prelude.{ℕ, ◌≡◌, ◌+◌, min, [], ◌∷◌, replicate, None}
use Rattle.{mg_access.specs.Searching.access_refusal, mg_disk.specs.Disk.Image, mg_model.specs.Access.last_slots}
use Rattle.mg_model.specs.{State.{CallFrame, ThreadRow}, Threads.make_thread, WellFormed.IsWellFormed}
use Rattle.mg_model.specs.declared.{replies.Reply.Reply, rights.Right.TheVariants.X, threads.ThrState.TheVariants.Ready}
use Rattle.mg_volume.specs.{Held.VolumeHeld, Meaning.{IsSpelledBy, now_of}}

-- its one frame: the slots of its maker's present frame
abbrev pub first_frame : ThreadRow → CallFrame
first_frame maker = record { back = 0; slots = last_slots maker.frames }

-- its row, after this number of births: in a state that is well formed none is above them
abbrev pub first_row : ThreadRow → ℕ → ℕ → ThreadRow
first_row maker births pc = record {
  birth = births + 1;
  creator = min maker.birth births;
  pc = pc;
  state = Ready;
  regs = replicate 8 0;
  frames = first_frame maker ∷ [];
}

-- the state and the reply are those of its row, if thread t may execute at the address
abbrev pub Begins : ℕ → ℕ → VolumeHeld → VolumeHeld → Reply → Type 0
Begins t pc old new reply = (image : Image) → IsSpelledBy old image → IsWellFormed (now_of old image) → access_refusal (now_of old image) t pc X ≡ None → make_thread (now_of old image) t pc ≡ (now_of new image, reply)

-- The state of a volume that is held.
use Rattle.std.specs.Prelude.{ℕ, ◌+◌, [], length, map, Option}
use Rattle.{mg_check.specs.Reads.CanRead, mg_disk.specs.Disk.Image, mg_journal.specs.Looked.Fits}
use Rattle.mg_model.specs.{Replay.replay, State.{Object, ObjectRow, State, Thread, ThreadRow}, Volume.object_spelled}
use Rattle.mg_show.specs.declared.held.Shown.{Shown}
use Rattle.mg_disk.specs.declared.disk.Disk as disks

-- the contents of an image, as the journal gives them
abbrev pub held_in : Shown → Image → Option Image
held_in shown image = replay image shown.view.total

-- their blocks can be read
abbrev pub CanShow : {D : Type 0} → disks.Ghosts D → Shown → D → Type 0
CanShow facts shown disk = CanRead facts shown.view.total (Fits shown.view) disk

-- an object with its words, and a thread with its number
abbrev pub object_in : Shown → Image → ℕ × ObjectRow → Object
object_in shown r o = object_spelled r (length shown.frames) shown.frames o.1

abbrev pub numbered : ℕ × ThreadRow → Thread
numbered t = record { number = t.0 + 1; row = t.1 }

-- the state with the words of these contents
abbrev pub state_shown : Shown → Image → State
state_shown shown r = record {
  settings = shown.params;
  counters = shown.counters;
  objects = map (object_in shown r) shown.objects;
  accounts = shown.bank.accounts;
  threads = map numbered shown.threads.items;
}

-- the state without its words
abbrev pub bare : Shown → State
bare shown = state_shown shown []

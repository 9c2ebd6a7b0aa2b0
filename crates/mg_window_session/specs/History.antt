-- Runs with devices, one after another.
use Rattle.std.specs.Prelude.{ℕ, IsSome, IsSomeAnd}
use Rattle.{mg_commands.specs.{Headline.session_of, History.{Finds, LeftBy, Run, Runs}}, mg_disk.specs.Disk.Image}
use Rattle.{mg_disk.specs.Stops.MightHaveLeft, mg_model.specs.State.State, mg_serve.specs.Sessions.use_of}
use Rattle.{mg_serve.specs.declared.status.Status.Status, mg_window.specs.Attached.Attached}
use Rattle.mg_window_session.specs.{Headline.{DevKeeps, equipped}, Machine.{device_state, device_text}}
use Rattle.mg_disk.specs.declared.disk.Disk as disks
use Rattle.mg_io.specs.declared.traits.Sink as sinks
use Rattle.mg_io.specs.declared.traits.Source as sources

-- a run of the machine with these devices, which ended so once its lines ran
abbrev pub run_with : {D S K : Type 0} → Attached → ℕ → Status → D → D → S → S → K → K → ℕ → ℕ → Run D S K
run_with windows batch ran disk disk' source source' sink replied steps steps' = record {
  said = λ state. device_text (equipped windows state);
  kept = λ state. device_state (equipped windows state);
  batch = batch;
  result = ran;
  disk = disk;
  disk' = disk';
  source = source;
  source' = source';
  sink = sink;
  sink' = replied;
  steps = steps;
  steps' = steps';
}

-- A run with devices whose disk is as earlier runs left it is a run that finds its disk so. So it is one of those of which the law over
-- runs speaks. Each run begins with the devices that it is handed; they are on no disk.
abbrev pub DevicesFollow : {D S K : Type 0} → disks.Ghosts D → sources.Ghosts S → sinks.Ghosts K → Type 0
DevicesFollow {D} {S} {K} d i o =
    (s : State) (runs : Runs D S K) (windows windows' : Attached) (batch : ℕ) (result : Status) (disk disk' : D) (source source' : S)
    (sink sink' : K) (steps steps' : ℕ)
    → DevKeeps windows windows' (session_of batch result (use_of d disk disk') (use_of i source source') (use_of o sink sink') steps steps')
    → IsSomeAnd (d.seen disk) (LeftBy d i o s runs) → ((c : Image) → MightHaveLeft d disk c → LeftBy d i o s runs c)
    → IsSomeAnd (i.left source) (λ input. IsSome (i.left source'))
    → (ran : Status) × (replied : K) × Finds d i o s runs (run_with windows batch ran disk disk' source source' sink replied steps steps')

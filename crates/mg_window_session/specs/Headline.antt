-- What a run with device windows promises. An object that does not tell its content has None for it; a promise on content is then empty.
use Rattle.std.specs.{Fmt.decimal, Prelude.{ℕ, ◌+◌, ◌≤◌, ◌≡◌, List, [], ◌∷◌, ◌++◌, codes, drop, length, take, Option}}
use Rattle.std.specs.Prelude.{Some, IfSome, IsSomeAnd}
use Rattle.mg_commands.specs.Headline.{EndsRun, LinesKeep, OfNoState, OfState, PrintsLast, Session, UsageKeeps}
use Rattle.{mg_commands.specs.Headline.session_of, mg_model.specs.{Lines.lines, Print.{answered, hex_text, spaced}}}
use Rattle.{mg_model.specs.State.State, mg_serve.specs.Sessions.{DiskRose, IfShort, IsDoneOrMemory, OfInput, Prints}}
use Rattle.mg_serve.specs.Sessions.{PrintsPrefix, SinkRose, SourceRose, left_at, left_now, use_of}
use Rattle.{mg_serve.specs.declared.status.Status.Status, mg_window.specs.{Attached.Attached, Devices.Held}}
use Rattle.mg_window_session.specs.Machine.{Equipped, device_after, device_state, device_text}
use Rattle.mg_io.specs.declared.traits.Sink as sinks
use Rattle.mg_serve.specs.declared.status.Status.TheVariants as status

-- the machine that begins: the state of a volume, and the devices that were handed in
abbrev pub equipped : Attached → State → Equipped
equipped windows s = record { state = s; windows = windows }

-- The devices

-- the devices after the lines of the whole input
abbrev pub AreAfterAll : Equipped → Option (List ℕ) → Attached → Type 0
AreAfterAll m left windows = IfSome left (λ input. windows ≡ (device_after m (lines input)).windows)

-- the devices after the answered lines and no others
abbrev pub AreAfterAnswered : Equipped → Option (List ℕ) → Option (List ℕ) → Option (List ℕ) → Attached → Type 0
AreAfterAnswered m left taken taken' windows = IfSome left (λ input. IfSome taken (λ before. IsSomeAnd taken' (λ now.
    windows ≡ (device_after m (take (answered (drop (length before) now)) (lines input))).windows)))

-- k is the number n of the answered lines, or one more
pub record IsOneMore (n k : ℕ) : Type 0 where
  pub least : n ≤ k
  pub most : k ≤ n + 1

-- the devices after the answered lines, or after one line more
abbrev pub AreAfterOneMore : Equipped → Option (List ℕ) → Option (List ℕ) → Option (List ℕ) → Attached → Type 0
AreAfterOneMore m left taken taken' windows = IfSome left (λ input. IfSome taken (λ before. IsSomeAnd taken' (λ now.
    (k : ℕ) × IsOneMore (answered (drop (length before) now)) k × (k ≤ length (lines input))
    × (windows ≡ (device_after m (take k (lines input))).windows))))

-- The devices as they are when the lines ran and ended with this status.
pub record LeavesDevices (m : Equipped) (result : Status) (windows : Attached) (left taken taken' : Option (List ℕ)) : Type 0 where
  -- At the end they are those after all lines, and these are the answered ones.
  pub all : result ≡ status.Done → AreAfterAll m left windows
  pub done : result ≡ status.Done → AreAfterAnswered m left taken taken' windows
  -- If the source failed, or gave too much, they are those after the answered lines and no others.
  pub source : result ≡ status.Source → AreAfterAnswered m left taken taken' windows
  pub too_long : result ≡ status.TooLong → AreAfterAnswered m left taken taken' windows
  -- If the disk or the sink failed, they are those or those after one line more.
  pub disk : result ≡ status.Disk → AreAfterOneMore m left taken taken' windows
  pub sink : result ≡ status.Sink → AreAfterOneMore m left taken taken' windows

-- The lines of the devices

-- the line of a device: the base that it is at, the number of its kind, and how many stores its tape holds
abbrev pub device_line : ℕ × Held → List ℕ
device_line (base, device) = codes "dev" ++ spaced (hex_text base ∷ decimal device.kind ∷ decimal (length device.tape) ∷ []) ++ 10 ∷ []

-- a line each, in their order
abbrev pub device_lines : Attached → List ℕ
device_lines [] = []
device_lines (window ∷ windows) = device_line window ++ device_lines windows

-- the replies to a whole input, and the lines of the devices that are left after it
abbrev pub whole_text : Equipped → List ℕ → List ℕ
whole_text m input = device_text m (lines input) ++ device_lines (device_after m (lines input)).windows

-- What a command keeps that runs lines with device windows

-- What is kept as the lines run: what `run` keeps, of the machine with devices, and the devices. The state is that of the volume that
-- reads give at entry.
pub record DevicesKeep {D S K : Type 0} (windows windows' : Attached) (s : Session D S K) : Type 0 where
  pub lines : LinesKeep (λ state. device_text (equipped windows state)) (λ state. device_state (equipped windows state)) s
  pub devices : OfState s.disk (λ state. LeavesDevices (equipped windows state) s.result windows' (left_at s.source)
      (s.sink.facts.taken s.sink.old) (s.sink.facts.taken s.sink.new))
  -- If there is no volume, whatever the status, or there was not enough memory, the devices are as they were.
  pub none_devices : s.result ≡ status.NoVolume → windows' ≡ windows
  pub untouched_devices : OfNoState s.disk (windows' ≡ windows)
  pub memory_devices : s.result ≡ status.Memory → windows' ≡ windows
  -- If there is no volume the counter of words does not rise.
  pub none_steps : s.result ≡ status.NoVolume → s.steps' ≡ s.steps
  pub untouched_steps : OfNoState s.disk (s.steps' ≡ s.steps)

-- What `VOLUME dev KIND:BASE ..` keeps, when the devices that were handed in are those that the words name.
pub record DevKeeps {D S K : Type 0} (windows windows' : Attached) (s : Session D S K) : Type 0 where
  -- How the lines ended, and the sink once all replies were printed: what is answered are the replies alone.
  pub ran : Status
  pub replied : K
  pub keeps : DevicesKeep windows windows' (session_of s.batch ran s.disk s.source (use_of s.sink.facts s.sink.old replied)
      s.steps s.steps')
  -- Then the lines of the devices that are left are printed.
  pub ends : PrintsLast s.sink.facts ran (device_lines windows') s.result replied s.sink.new
  -- What was printed is a prefix of the replies to the whole input and those lines; at the end it is all of them.
  pub prefix : OfState s.disk (λ state. OfInput s.source (λ input. PrintsPrefix s.sink (whole_text (equipped windows state) input)))
  pub done : s.result ≡ status.Done → OfState s.disk (λ state. OfInput s.source (λ input.
      (left_now s.source ≡ Some []) × Prints s.sink (whole_text (equipped windows state) input)))
  -- It ends in one of the ways of `run`, and the disk and the sink failed only if their counts rose.
  pub which : EndsRun s.result
  pub disk_failed : s.result ≡ status.Disk → DiskRose s.disk
  pub sink_failed : s.result ≡ status.Sink → SinkRose s.sink
  -- If reads give a volume, no call failed and the input is not too long, all is done, or there was not enough memory.
  pub complete : OfState s.disk (λ _. (DiskRose s.disk → ⊥) → (SourceRose s.source → ⊥) → (SinkRose s.sink → ⊥)
      → IfShort s.source (IsDoneOrMemory s.result))

-- What is kept if the words are no such words, or name other devices: the disk, the source and the devices are left
-- alone, and the counter of words does not rise.
pub record NoDevKeeps {D S K : Type 0} (to : sinks.Ghosts K) (result : Status) (windows windows' : Attached)
    (disk disk' : D) (source source' : S) (sink sink' : K) (steps steps' : ℕ) : Type 0 where
  pub usage : UsageKeeps to result disk disk' source source' sink sink'
  pub devices : windows' ≡ windows
  pub steps_alone : steps' ≡ steps

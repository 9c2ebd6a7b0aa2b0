-- Runs of lines one after another on one disk, with kills and stops between and within them, and what they keep together.
use Rattle.std.specs.Prelude.{ℕ, ◌≡◌, ◌≤◌, List, [], length, take, IsSome, IsSomeAnd}
use Rattle.{mg_commands.specs.Headline.{LinesKeep, Session, session_of}, mg_disk.specs.Disk.Image}
use Rattle.mg_model.specs.{Lines.lines, State.State, Volume.{Is, volume}, declared.calls.Line.Line}
use Rattle.mg_serve.specs.{Sessions.{AreHeld, OfInput, OfRest, use_of}, declared.status.Status.Status}
use Rattle.mg_disk.specs.declared.disk.Disk as disks
use Rattle.mg_io.specs.declared.traits.Sink as sinks
use Rattle.mg_io.specs.declared.traits.Source as sources

-- A run: what its machine says and keeps of lines from a state on, which for `run` are `replies_text` and `after`; its disk, its
-- source and its sink as it found them and as it left them; and the rest of a session.
pub record Run (D S K : Type 0) : Type 0 where
  pub said : State → List Line → List ℕ
  pub kept : State → List Line → State
  pub batch : ℕ
  pub result : Status
  pub disk : D
  pub disk' : D
  pub source : S
  pub source' : S
  pub sink : K
  pub sink' : K
  pub steps : ℕ
  pub steps' : ℕ

-- Runs, the last one last. Each one ended, by itself or since its disk, its source or its sink failed at every call from some
-- moment on; or it was cut off at some moment, as its process was killed or the machine stopped.
pub data Runs (D S K : Type 0) : Type 0 where
  None : Runs D S K
  Ended : Runs D S K → Run D S K → Runs D S K
  CutOff : Runs D S K → Run D S K → Runs D S K

module _ {D S K : Type 0} (d : disks.Ghosts D) (i : sources.Ghosts S) (o : sinks.Ghosts K) where
  abbrev pub session : Run D S K → Session D S K
  session r = session_of r.batch r.result (use_of d r.disk r.disk') (use_of i r.source r.source') (use_of o r.sink r.sink')
      r.steps r.steps'

  -- the images that a stop may leave after runs that began on a volume of the state s
  abbrev pub LeftBy : State → Runs D S K → Image → Type 0
  LeftBy s None c = volume c ≡ Is s
  LeftBy s (Ended runs r) c = (d.time r.disk').left_since (d.time r.disk').moment c
  LeftBy s (CutOff runs r) c = (d.time r.disk').left_since (d.time r.disk).moment c

  -- A run finds its disk as these left it: reads give one of the images, and a stop may leave no others. So it is after a process
  -- that ended or was killed, with what is pending, and after a machine that stopped and left one of them.
  pub record Finds (s : State) (runs : Runs D S K) (r : Run D S K) : Type 0 where
    pub reads : IsSomeAnd (d.seen r.disk) (LeftBy s runs)
    pub no_others : (c : Image) → (d.time r.disk).left_since (d.time r.disk).moment c → LeftBy s runs c
    -- Its source tells what it has left.
    pub told : IsSomeAnd (i.left r.source) (λ input. IsSome (i.left r.source'))
    -- It kept what `run` keeps, and no lines leave a state as it is.
    pub keeps : LinesKeep r.said r.kept (session r)
    pub still : (u : State) → r.kept u [] ≡ u

  -- each of them finds what the one before it left
  abbrev pub Follow : State → Runs D S K → Type 0
  Follow s None = Unit {0}
  Follow s (Ended runs r) = Follow s runs × Finds s runs r
  Follow s (CutOff runs r) = Follow s runs × Finds s runs r

  -- The state t is reached from s: after some first lines of each run, of one that ended at least those that it answered.
  abbrev pub Reaches : State → Runs D S K → State → Type 0
  Reaches s None t = t ≡ s
  Reaches s (Ended runs r) t = (u : State) × Reaches s runs u
      × OfRest (session r).source (λ input rest. (k : ℕ) × AreHeld (session r).sink input rest k
      × (t ≡ r.kept u (take k (lines input))))
  Reaches s (CutOff runs r) t = (u : State) × Reaches s runs u
      × OfInput (session r).source (λ input. (k : ℕ) × (k ≤ length (lines input)) × (t ≡ r.kept u (take k (lines input))))

  -- an image spells a state that is reached
  abbrev pub SpellsReached : State → Runs D S K → Image → Type 0
  SpellsReached s runs c = (t : State) × (volume c ≡ Is t) × Reaches s runs t

  -- After such runs a stop leaves no other image, and one run more opens a state that they reach.
  pub record RunsHold : Type 0 where
    pub left : (s : State) (runs : Runs D S K) → Follow s runs → (c : Image) → LeftBy s runs c → SpellsReached s runs c
    pub opened : (s : State) (runs : Runs D S K) → Follow s runs → (r : Run D S K) → Finds s runs r
        → IsSomeAnd (d.seen r.disk) (SpellsReached s runs)

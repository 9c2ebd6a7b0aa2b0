-- Runs of lines one after another over mirrors, and how each mirror is found.
use Rattle.std.specs.Prelude.{ℕ, ◌≡◌, ◌≢◌, ◌⊎◌, IsTrue, take, Option, Some, None, IsSome, IsSomeAnd}
use Rattle.{mg_commands.specs.History.{Finds, LeftBy, Run, Runs, RunsHold}, mg_disk.specs.Disk.Image}
use Rattle.{mg_disk.specs.Stops.MightHaveLeft, mg_mirror.specs.{Mirror.CutOf, declared.mirror.Side.Side}}
use Rattle.{mg_mirror.specs.declared.mirror.Side.TheVariants.{Left, Right}, mg_mirror_session.specs.Headline.OfSide}
use Rattle.mg_mirror_session.specs.{Headline.{RanOnMirror, seen_on, session_over}, Mirrored.{Two, mirror}}
use Rattle.{mg_model.specs.{Print.replies_text, State.State, Step.after}, mg_serve.specs.Sessions.use_of}
use Rattle.mg_serve.specs.declared.status.Status.{Status}
use Rattle.mg_disk.specs.declared.disk.Disk as disks
use Rattle.mg_io.specs.declared.traits.Sink as sinks
use Rattle.mg_io.specs.declared.traits.Source as sources
use Rattle.mg_commands.specs.History as history

-- A call over a mirror: the side that it was opened from, its disks, its source and its sink as the call found them and as it left them,
-- and the rest of a session over a mirror.
pub record MirrorCall (D E S K : Type 0) : Type 0 where
  pub from : Side
  pub result : Status
  pub alone : Option Side
  pub left : D
  pub left' : D
  pub right : E
  pub right' : E
  pub source : S
  pub source' : S
  pub sink : K
  pub sink' : K
  pub steps : ℕ
  pub steps' : ℕ

-- both sides were in use as the lines began, or this one alone then and at the end
abbrev pub IsUsed : Side → Option Side → Option Side → Type 0
IsUsed side was alone = (was ≡ None) ⊎ ((was ≡ Some side) × (alone ≡ Some side))

module _ {D E S K : Type 0} (d : disks.Ghosts D) (e : disks.Ghosts E) (i : sources.Ghosts S) (o : sinks.Ghosts K) where
  -- the lines of a call ran on its mirror
  abbrev pub Ran : MirrorCall D E S K → Type 0
  Ran m = RanOnMirror (session_over m.from m.result m.alone (use_of d m.left m.left') (use_of e m.right m.right') (use_of i m.source m.source')
      (use_of o m.sink m.sink') m.steps m.steps')

  -- as a run on the mirror, which is its disk
  abbrev pub run_of : (m : MirrorCall D E S K) → Ran m → Run (Two D E) S K
  run_of m ran = record {
    said = replies_text;
    kept = after;
    batch = 1;
    result = ran.ran;
    disk = ran.opened;
    disk' = ran.closed;
    source = m.source;
    source' = m.source';
    sink = m.sink;
    sink' = ran.replied;
    steps = m.steps;
    steps' = m.steps';
  }

  -- A call finds SIDE's disk, in the n blocks of its mirror, as runs over mirrors left it: reads give one of the images that a stop may
  -- leave after them, and a stop may leave no others. Reads of the other disk are told too, and its source tells what it has left.
  pub record FindsSide (s : State) (runs : Runs (Two D E) S K) (m : MirrorCall D E S K) (n : ℕ) : Type 0 where
    pub reads : IsSomeAnd (seen_on d e m.from m.left m.right) (λ x. LeftBy (mirror d e) i o s runs (take n x))
    pub both_told : IsSome (d.seen m.left) × IsSome (e.seen m.right)
    pub no_others : (c : Image) → OfSide m.from (CutOf n (MightHaveLeft d m.left) c) (CutOf n (MightHaveLeft e m.right) c)
        → LeftBy (mirror d e) i o s runs c
    pub told : IsSomeAnd (i.left m.source) (λ input. IsSome (i.left m.source'))

  -- Runs over mirrors, one after another, with kills and stops between and within them.
  pub record MirrorsFollow : Type 0 where
    -- What runs on a disk hold, runs on mirrors hold.
    pub hold : RunsHold (mirror d e) i o
    -- A call that finds SIDE's disk as they left it finds its mirror so: its lines are one run more.
    pub finds : (s : State) (runs : Runs (Two D E) S K) (m : MirrorCall D E S K) (ran : Ran m)
        → FindsSide s runs m ran.opened.blocks → Finds (mirror d e) i o s runs (run_of m ran)
    -- What a stop may leave after it of a disk that is in use, in the mirror's blocks, it may leave after these runs and this one, if the
    -- other disk tells of stops too.
    pub left_ended : (s : State) (runs : Runs (Two D E) S K) (m : MirrorCall D E S K) (ran : Ran m) → m.alone ≢ Some Right
        → IsTrue (e.tells_stops m.right') → (c : Image) → CutOf ran.opened.blocks (MightHaveLeft d m.left') c
        → LeftBy (mirror d e) i o s (history.Ended runs (run_of m ran)) c
    pub right_ended : (s : State) (runs : Runs (Two D E) S K) (m : MirrorCall D E S K) (ran : Ran m) → m.alone ≢ Some Left
        → IsTrue (d.tells_stops m.left') → (c : Image) → CutOf ran.opened.blocks (MightHaveLeft e m.right') c
        → LeftBy (mirror d e) i o s (history.Ended runs (run_of m ran)) c
    -- So it is, if its lines were cut off, of what a stop at some moment since they began left of a disk that was in use.
    pub left_cut : (s : State) (runs : Runs (Two D E) S K) (m : MirrorCall D E S K) (ran : Ran m) → IsUsed Left ran.opened.alone m.alone
        → IsTrue (e.tells_stops m.right') → (c : Image) → CutOf ran.opened.blocks ((d.time m.left').left_since (d.time ran.opened.left).moment) c
        → LeftBy (mirror d e) i o s (history.CutOff runs (run_of m ran)) c
    pub right_cut : (s : State) (runs : Runs (Two D E) S K) (m : MirrorCall D E S K) (ran : Ran m) → IsUsed Right ran.opened.alone m.alone
        → IsTrue (d.tells_stops m.left') → (c : Image) → CutOf ran.opened.blocks ((e.time m.right').left_since (e.time ran.opened.right).moment) c
        → LeftBy (mirror d e) i o s (history.CutOff runs (run_of m ran)) c

-- How a run over a mirror that was opened ends, for the promise to be made of it.
use Rattle.std.specs.Prelude.{ℕ, ◌≡◌, ◌<◌, Option, Some, None}
use Rattle.{mg_commands.specs.Headline.{RunKeeps, session_of}, mg_faults.specs.Faults.CountGoesOn}
use Rattle.mg_mirror.specs.{Opened.{BothRose, RoseFrom}, declared.mirror.{Mirror.Mirror, Side.{Side, TheVariants.Left}}}
use Rattle.{mg_mirror.specs.declared.mirror.Side.TheVariants.Right, mg_mirror_session.specs.Headline.PutsSide}
use Rattle.{mg_mirror_session.specs.Mirrored.{Two, mirror}, mg_serve.specs.Sessions.use_of}
use Rattle.mg_serve.specs.declared.status.Status.{Status}
use Rattle.mg_disk.specs.declared.disk.Disk as disks
use Rattle.mg_io.specs.declared.traits.Sink as sinks
use Rattle.mg_io.specs.declared.traits.Source as sources
use Rattle.mg_mirror.specs.declared.mirror.Opened as counts

-- a mirror as two disks
abbrev pub as_two : {D E O : Type 0} (d : disks.Ghosts D) (e : disks.Ghosts E) (o : counts.Ghosts O D E) → Mirror D E O d e o → Two D E
as_two d e o m = record { left = m.left; right = m.right; blocks = m.blocks; alone = m.alone; failed = m.count }

-- a disk that stands outside now
abbrev pub out_left : {D : Type 0} → Option Side → D → Option D
out_left (Some Right) disk = Some disk
out_left (Some Left) disk = None
out_left None disk = None

abbrev pub out_right : {E : Type 0} → Option Side → E → Option E
out_right (Some Left) disk = Some disk
out_right (Some Right) disk = None
out_right None disk = None

-- The lines ran on a mirror whose disks had these counts of faults before it was opened.
pub record RanOpened {D E S K : Type 0} (d : disks.Ghosts D) (e : disks.Ghosts E) (input : sources.Ghosts S) (to : sinks.Ghosts K) (left_from right_from : ℕ) (opened : Two D E)
    (result : Status) (alone : Option Side) (left' : D) (right' : E) (source source' : S) (sink sink' : K) (steps steps' : ℕ) : Type 0 where
  pub failed : ℕ
  pub ran : Status
  pub replied : K
  pub keeps : RunKeeps (session_of 1 ran
      (use_of (mirror d e) opened (record { left = left'; right = right'; blocks = opened.blocks; alone = alone; failed = failed }))
      (use_of input source source') (use_of to sink replied) steps steps')
  pub ends : PutsSide to ran alone result replied sink'
  pub before : CountGoesOn (to.faults sink) (to.faults replied) (to.is_spent sink) (to.is_spent replied)
  pub after : CountGoesOn (to.faults replied) (to.faults sink') (to.is_spent replied) (to.is_spent sink')
  pub both : 0 < failed → BothRose left_from (d.faults left') (d.is_spent left') right_from (e.faults right') (e.is_spent right')
  pub dropped_right : alone ≡ Some Left → RoseFrom right_from (e.faults right') (e.is_spent right')
  pub dropped_left : alone ≡ Some Right → RoseFrom left_from (d.faults left') (d.is_spent left')
  pub right_out : opened.alone ≡ Some Left → right' ≡ opened.right
  pub left_out : opened.alone ≡ Some Right → left' ≡ opened.left

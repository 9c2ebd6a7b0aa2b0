-- Text that is put through a writer, which remembers the first fault.
use Rattle.std.specs.{Io.KnownBytes.Appends, Option.ForSome, Prelude.{ℕ, ◌≡◌, ◌⊎◌, List, ◌++◌, Option, Some, None}}
use Rattle.std.specs.Prelude.{IsTrue, is_some}
use Rattle.{mg_check.specs.Reads.contents, mg_disk.specs.{Disk.Image, Reads.OnlyRead, Stops.CountRose}}
use Rattle.{mg_faults.specs.Faults.{CountGoesOn, Rose}, mg_io.specs.Known.AppendsPrefix}
use Rattle.mg_show.specs.declared.faults.ShowFault.{ShowFault}
use Rattle.mg_disk.specs.declared.disk.Disk as disks
use Rattle.mg_io.specs.declared.traits.Sink as sinks
use Rattle.mg_show.specs.declared.faults.ShowFault.TheVariants as fault

-- with what waits, the sink's text is longer by this text
pub record Adds (taken taken' : Option (List ℕ)) (waiting waiting' text : List ℕ) : Type 0 where
  pub put : List ℕ
  pub took : Appends taken taken' put
  pub all : put ++ waiting' ≡ waiting ++ text

-- a writer: the bytes that wait to be put, and the first fault
pub record Held : Type 0 where
  pub waiting : List ℕ
  pub fault : Option ShowFault

-- A text is written: after a fault nothing is done.
pub record Writes {K : Type 0} (to : sinks.Ghosts K) (text : List ℕ) (sink sink' : K) (out out' : Held) : Type 0 where
  pub stays : IsTrue (is_some out.fault) → (sink' ≡ sink) × (out' ≡ out)
  -- Without a fault the text was put, all of it, or waits to be; in each case a first part of it was.
  pub adds : out'.fault ≡ None → Adds (to.taken sink) (to.taken sink') out.waiting out'.waiting text
  pub prefix : out.fault ≡ None → AppendsPrefix (to.taken sink) (to.taken sink') (out.waiting ++ text)
  -- A fault of the sink is one of its.
  pub goes_on : CountGoesOn (to.faults sink) (to.faults sink') (to.is_spent sink) (to.is_spent sink')
  pub rose : out'.fault ≡ Some fault.Sink → (out.fault ≡ Some fault.Sink) ⊎ Rose (to.faults sink) (to.faults sink') (to.is_spent sink')

-- What a call does that puts a text, and reads nothing.
pub record Puts {K : Type 0} (to : sinks.Ghosts K) (text : List ℕ) (sink sink' : K) (out out' : Held) : Type 0 where
  pub writes : Writes to text sink sink' out out'
  pub not_read : out'.fault ≡ Some fault.Disk → out.fault ≡ Some fault.Disk

-- a read failed, the first fault
pub record ReadFails {D : Type 0} (facts : disks.Ghosts D) (disk disk' : D) (out out' : Held) : Type 0 where
  pub none : out.fault ≡ None
  pub failed : out'.fault ≡ Some fault.Disk
  pub rose : CountRose facts disk disk'

-- What a call does that reads, and puts nothing: it may remember that the disk failed.
pub record Reads {D : Type 0} (facts : disks.Ghosts D) (disk disk' : D) (out out' : Held) : Type 0 where
  pub reads : OnlyRead facts disk disk'
  pub ends : (out' ≡ out) ⊎ ReadFails facts disk disk' out out'

-- What a call does that puts a text of the contents of a disk.
pub record PutsOf {D K : Type 0} (facts : disks.Ghosts D) (to : sinks.Ghosts K) (of : Image → Option Image) (text : Image → List ℕ) (disk disk' : D) (sink sink' : K) (out out' : Held) : Type 0 where
  -- A text is written, that of the contents where reads give them.
  pub told : List ℕ
  pub is : ForSome (contents facts of disk) (λ r. told ≡ text r)
  pub writes : Writes to told sink sink' out out'
  -- The disk is only read, and a fault of it is one of its.
  pub reads : OnlyRead facts disk disk'
  pub disk_rose : out'.fault ≡ Some fault.Disk → (out.fault ≡ Some fault.Disk) ⊎ CountRose facts disk disk'

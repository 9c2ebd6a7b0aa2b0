-- What is kept as the text of a volume is put, once it was found to be one.
use Rattle.std.specs.{Io.KnownBytes.Appends, Option.ForSome, Prelude.{◌≡◌, ◌⊎◌, None, Option, Some}}
use Rattle.{mg_disk.specs.{Reads.OnlyRead, Stops.CountRose}, mg_faults.specs.Faults.Rose}
use Rattle.{mg_io.specs.Known.AppendsPrefix, mg_model.specs.{State.State, Volume.{Is, volume}}}
use Rattle.{mg_serve.specs.declared.status.Status.Status, mg_show.specs.{Commands.text_of, declared.command.Text.Text}}
use Rattle.mg_show.specs.declared.faults.ShowFault.{ShowFault}
use Rattle.mg_disk.specs.declared.disk.Disk as disks
use Rattle.mg_io.specs.declared.traits.Sink as sinks
use Rattle.mg_serve.specs.declared.status.Status.TheVariants as status
use Rattle.mg_show.specs.declared.faults.ShowFault.TheVariants as fault

-- how it ends, by the first fault
abbrev pub status_of : Option ShowFault → Status
status_of None = status.Done
status_of (Some fault.Disk) = status.Disk
status_of (Some fault.Sink) = status.Sink

-- What is kept as the text of a volume is put, once its rows were read.
pub record ShowsRows {D K : Type 0} (facts : disks.Ghosts D) (to : sinks.Ghosts K) (text : Text) (result : Status) (disk disk' : D) (sink sink' : K) : Type 0 where
  pub done : result ≡ status.Done → ForSome (facts.seen disk) (λ image. (s : State) × (volume image ≡ Is s) × Appends (to.taken sink) (to.taken sink') (text_of text s))
  pub prefix : ForSome (facts.seen disk) (λ image. (s : State) × (volume image ≡ Is s) × AppendsPrefix (to.taken sink) (to.taken sink') (text_of text s))
  pub reads : OnlyRead facts disk disk'
  pub which : (result ≡ status.Done) ⊎ ((result ≡ status.Memory) ⊎ ((result ≡ status.Disk) ⊎ (result ≡ status.Sink)))
  pub memory : result ≡ status.Memory → sink' ≡ sink
  pub disk_failed : result ≡ status.Disk → CountRose facts disk disk'
  pub sink_failed : result ≡ status.Sink → Rose (to.faults sink) (to.faults sink') (to.is_spent sink')

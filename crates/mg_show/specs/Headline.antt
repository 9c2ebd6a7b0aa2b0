-- What the program promises: the text of the volume that reads give, all of it, and no write.
use Rattle.std.specs.{Io.KnownBytes.Appends, Option.ForSome, Prelude.{◌≡◌, ◌⊎◌}}
use Rattle.{mg_commands.specs.Headline.{EndsUnopened, OnVolume, TellsOfNone}, mg_disk.specs.Stops.CountRose}
use Rattle.{mg_disk.specs.Stops.WritesNothing, mg_faults.specs.Faults.Rose, mg_io.specs.Arguments.PrintsUsage}
use Rattle.{mg_io.specs.Known.AppendsPrefix, mg_model.specs.{State.State, Volume.{Is, volume}}}
use Rattle.{mg_serve.specs.{Sessions.IsDoneOrMemory, declared.status.Status.Status}, mg_show.specs.Commands.text_of}
use Rattle.mg_show.specs.declared.command.Text.{Text}
use Rattle.mg_disk.specs.declared.disk.Disk as disks
use Rattle.mg_io.specs.declared.traits.Sink as sinks
use Rattle.mg_serve.specs.declared.status.Status.TheVariants as status

-- What is kept where a text is asked for.
pub record ShowKeeps {D K : Type 0} (facts : disks.Ghosts D) (to : sinks.Ghosts K) (text : Text)
    (result : Status) (disk disk' : D) (sink sink' : K) : Type 0 where
  -- At the end reads give a volume, and the text of its state was put, all of it.
  pub done : result ≡ status.Done
      → ForSome (facts.seen disk) (λ image. (s : State) × (volume image ≡ Is s) × Appends (to.taken sink) (to.taken sink') (text_of text s))
  -- At each status what was put of a volume is a prefix of that.
  pub prefix : OnVolume (facts.seen disk) (λ s. AppendsPrefix (to.taken sink) (to.taken sink') (text_of text s))
  pub writes : WritesNothing facts disk disk'
  pub without : TellsOfNone facts to result disk disk' sink sink'
  pub which : (result ≡ status.Done) ⊎ EndsUnopened result
  -- Where memory was wanting nothing was put; the disk and the sink failed only where their counts rose.
  pub memory : result ≡ status.Memory → sink' ≡ sink
  pub disk_failed : result ≡ status.Disk → CountRose facts disk disk'
  pub sink_failed : result ≡ status.Sink → Rose (to.faults sink) (to.faults sink') (to.is_spent sink')
  -- Of a volume, where no call failed, all is done, or memory was wanting.
  pub complete : OnVolume (facts.seen disk) (λ _. (CountRose facts disk disk' → ⊥)
      → (Rose (to.faults sink) (to.faults sink') (to.is_spent sink') → ⊥) → IsDoneOrMemory result)

-- What is kept where the words ask for none: the line `usage` was put, or a first part of it where the sink failed.
pub record UsageKeeps {D K : Type 0} (to : sinks.Ghosts K) (result : Status) (disk disk' : D) (sink sink' : K) : Type 0 where
  pub put : PrintsUsage to (result ≡ status.Usage) (result ≡ status.Sink) sink sink'
  pub alone : disk' ≡ disk

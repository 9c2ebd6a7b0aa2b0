-- What the program keeps, from its words to its exit status: the records of `top_show`.
use Rattle.std.specs.{Prelude.{◌≡◌, List, Some, None, String}, declared.alloc.Global.Global}
use Rattle.{mg_io.specs.Arguments.arguments, mg_serve.specs.declared.status.Status.Status}
use Rattle.mg_show.specs.{Commands.spelled, Headline.{ShowKeeps, UsageKeeps}, declared.command.Text.Text}
use Rattle.mg_disk.specs.declared.disk.Disk as disks
use Rattle.mg_io.specs.declared.traits.Sink as sinks

-- What the program did, with this status at the end.
pub record Did {D K : Type 0} (facts : disks.Ghosts D) (to : sinks.Ghosts K) (words : List (String Global)) (result : Status) (disk disk' : D) (sink sink' : K) : Type 0 where
  pub shows : (text : Text) → spelled (arguments words) ≡ Some text → ShowKeeps facts to text result disk disk' sink sink'
  pub usage : spelled (arguments words) ≡ None → UsageKeeps to result disk disk' sink sink'

-- What both filters do if the words spell no command.
use Rattle.std.specs.Prelude.{◌≡◌}
use Rattle.{mg_filter.specs.declared.status.Status.Status, mg_io.specs.Arguments.PrintsUsage}
use Rattle.mg_filter.specs.declared.status.Status.TheVariants as status
use Rattle.mg_io.specs.declared.traits.Sink as sinks

-- What is kept if the words spell no command: `err` takes the line, and source and `out` are left alone.
pub record UsageKeeps {S O E : Type 0} (aside : sinks.Ghosts E) (result : Status)
    (source source' : S) (out out' : O) (err err' : E) : Type 0 where
  pub put : PrintsUsage aside (result ≡ status.Usage) (result ≡ status.Sink) err err'
  pub source_alone : source' ≡ source
  pub out_alone : out' ≡ out

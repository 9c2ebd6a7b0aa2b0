-- The exit statuses.
use Rattle.std.specs.Prelude.{ℕ}
use Rattle.mg_filter.specs.declared.status.Status.{Status}
use Rattle.mg_filter.specs.declared.status.Status.TheVariants as status

-- the exit status
abbrev pub code_of : Status → ℕ
code_of status.Done = 0
code_of status.Fault = 1
code_of status.Usage = 1
code_of status.Memory = 3
code_of status.Source = 5
code_of status.Sink = 6
code_of status.TooLong = 7

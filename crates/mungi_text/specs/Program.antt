-- What the program keeps, from its words to its exit status: the records of `top`.
use Rattle.std.specs.{Prelude.{◌≡◌, List, None, Some, IfSome, String}, declared.alloc.Global.Global}
use Rattle.mg_document_session.specs.{Commands.command_of, Headline.{BringsBack, Keeps}}
use Rattle.{mg_document_session.specs.declared.words.Command.TheVariants.Bytes, mg_filter.specs.Usages.UsageKeeps}
use Rattle.{mg_filter.specs.declared.status.Status.Status, mg_io.specs.Arguments.arguments}
use Rattle.mg_io.specs.declared.traits.Sink as sinks
use Rattle.mg_io.specs.declared.traits.Source as sources

-- What the program did, with this status at the end.
pub record Did {S O E : Type 0} (from : sources.Ghosts S) (to : sinks.Ghosts O) (aside : sinks.Ghosts E) (words : List (String Global)) (result : Status) (source source' : S) (out out' : O) (err err' : E) : Type 0 where
  pub command : IfSome (command_of (arguments words)) (λ command. Keeps from to aside command result source source' out out' err err')
  pub back : command_of (arguments words) ≡ Some Bytes → BringsBack result (from.left source) (to.taken out) (to.taken out')
  pub usage : command_of (arguments words) ≡ None → UsageKeeps aside result source source' out out' err err'

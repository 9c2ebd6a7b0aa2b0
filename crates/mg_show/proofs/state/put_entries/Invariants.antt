use Rattle.{mg_show.specs.{StateText.entry_text, Writing.Puts}, std.proofs.Common.{take, flat_map}}
use Rattle.mg_show.proofs.state.put_entries.Given as goal

abbrev pub invariant-loop-entry : goal.invariant-loop-entry
invariant-loop-entry g l = Puts g.K.Sink (flat_map entry_text (take l.entry-index l.entries)) l.initial.sink l.sink l.initial.out l.out

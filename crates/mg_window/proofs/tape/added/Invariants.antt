use Rattle.{mg_window.specs.Devices.sum_at, std.{proofs.Common.{◌≡◌, ◌%◌, ◌^◌}, specs.Prelude.take}}
use Rattle.mg_window.proofs.tape.added.Given as goal

abbrev pub invariant-loop-entry : goal.invariant-loop-entry
invariant-loop-entry l = l.sum ≡ sum_at (take l.entry-index l.tape) l.off % 2 ^ 64

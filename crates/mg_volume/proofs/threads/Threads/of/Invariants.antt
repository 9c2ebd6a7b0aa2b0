use Rattle.{mg_volume.specs.Numbered.numbered, std.proofs.Common.{◌≡◌, take}}
use Rattle.mg_volume.proofs.threads.Threads.of.Given as goal

abbrev pub invariant-loop-row : goal.invariant-loop-row
invariant-loop-row l = l.threads ≡ numbered (take l.row-index l.rows)

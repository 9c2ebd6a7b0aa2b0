use Rattle.{mg_rules.specs.Tables.pages_in, std.{proofs.Common.{◌≡◌, ◌+◌, take}, specs.Prelude.sum_by}}
use Rattle.mg_rules.proofs.soundness.are_few.Given as goal

-- the pages of the objects so far are taken off
abbrev pub invariant-loop-row : goal.invariant-loop-row
invariant-loop-row l = l.left + sum_by pages_in (take l.row-index l.objects) ≡ l.frames

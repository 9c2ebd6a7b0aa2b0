use Rattle.{mg_rules.specs.Tables.pages_in, std.{proofs.Common.{◌≡◌, ◌≤◌, ◌*◌, take}, specs.Prelude.sum_by}}
use Rattle.mg_check.proofs.examining.used.Given as goal

-- the pages of the objects so far are counted
abbrev pub invariant-loop-row : goal.invariant-loop-row
invariant-loop-row l = record {
  sum : l.used ≡ sum_by pages_in (take l.row-index l.objects);
  few : l.used ≤ 1024 * l.row-index;
}

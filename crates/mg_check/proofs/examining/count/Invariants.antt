use Rattle.{mg_rules.specs.Tables.count_in, std.{proofs.Common.{◌≡◌, ◌≤◌, take}, specs.Prelude.sum_by}}
use Rattle.mg_check.proofs.examining.count.Given as goal

-- the objects so far are counted
abbrev pub invariant-loop-row : goal.invariant-loop-row
invariant-loop-row l = record {
  sum : l.count ≡ sum_by count_in (take l.row-index l.objects);
  few : l.count ≤ l.row-index;
}

use Rattle.{mg_rules.specs.RowsRead.live_from, std.proofs.Common.{◌≡◌, ◌≤◌, length, vec_capacity}}
use Rattle.mg_check.proofs.table_rows.fill_to.Given as goal

abbrev pub invariant-loop : goal.invariant-loop
invariant-loop g l = record {
  long : length l.rows.items ≡ l.counter;
  live : live_from 0 l.rows.items ≡ live_from 0 l.initial.rows.items;
  room : vec_capacity l.initial.rows ≤ vec_capacity l.rows;
}

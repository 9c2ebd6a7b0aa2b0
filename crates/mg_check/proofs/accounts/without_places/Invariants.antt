use Rattle.{mg_model.specs.Limits.account_limit, mg_rules.specs.RowsRead.placed_from, std.proofs.Common.{◌≡◌, ◌≤◌, length, take, vec_capacity}}
use Rattle.mg_check.proofs.accounts.without_places.Given as goal

-- the accounts so far are the first ones
abbrev pub invariant-loop-place : goal.invariant-loop-place
invariant-loop-place l = record {
  same : placed_from 0 l.accounts.items ≡ take l.place-index l.rows;
  long : length l.accounts.items ≡ l.place-index;
  room : account_limit ≤ vec_capacity l.accounts;
}

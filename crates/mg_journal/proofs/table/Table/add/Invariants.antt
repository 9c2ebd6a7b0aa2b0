use Rattle.{mg_journal.specs.{Newest.{HasLast, lying}, Places.IsPlace}, mg_model.specs.Replay.homes_fit, std.proofs.Common.{◌≡◌, ◌≤◌, ◌+◌, ◌++◌, ℕ}}
use Rattle.std.proofs.Common.{All, List, length, take, true}
use Rattle.mg_journal.proofs.table.Table.add.Given as goal

-- the places of the bodies up to this one are in the table
abbrev pub invariant-loop-k : goal.invariant-loop-k
invariant-loop-k l = record {
  newest : (places : List (ℕ × ℕ)) → HasLast places l.fn.self → HasLast (places ++ lying l.first (take l.k l.writes)) l.self;
  fit : (total : ℕ) → homes_fit total l.writes ≡ true → All (IsPlace total) l.fn.self → All (IsPlace total) l.self;
  few : length l.self ≤ length l.fn.self + l.k;
}

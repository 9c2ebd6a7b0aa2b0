use Rattle.{mg_model.specs.Replay.homes_fit, std.proofs.Common.{◌≡◌, ◌≤◌, length, true}}
use Rattle.test_store.proofs.full.stage_all.Given as goal

-- no more writes than were made, each of a block of the volume
abbrev pub invariant-loop-k : goal.invariant-loop-k
invariant-loop-k l = record {
  few : length l.writes ≤ l.k;
  fit : homes_fit 2578 l.writes ≡ true;
}

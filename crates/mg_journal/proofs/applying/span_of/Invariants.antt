use Rattle.{mg_journal.specs.Applied.nth_body, std.specs.Prelude.{◌≤◌, ◌<◌, ℕ}}
use Rattle.mg_journal.proofs.applying.span_of.Given as goal

-- the bodies of the places before this one
abbrev pub invariant-loop-k : goal.invariant-loop-k
invariant-loop-k l = record {
  all : (i : ℕ) → i < l.k → l.from ≤ nth_body l.places i → nth_body l.places i < l.to → (l.low ≤ nth_body l.places i) × (nth_body l.places i < l.high);
  low : l.low ≤ l.to;
  high : l.high ≤ l.to;
}

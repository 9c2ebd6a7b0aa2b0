use Rattle.{mg_model.specs.State.ObjectRow, std.{proofs.Common.{ℕ, ◌-◌, ◌≤◌, ◌<◌, length}, specs.List.AllWithin}}
use Rattle.mg_show.proofs.marks.count_below.Given as goal

-- the cut lies between the two
abbrev pub invariant-loop-low : goal.invariant-loop-low
invariant-loop-low l = record {
  within : l.high ≤ length l.objects;
  order : l.low ≤ l.high;
  before : AllWithin (λ (o : ℕ × ObjectRow). o.1.base < l.base) l.objects 0 l.low;
  behind : AllWithin (λ (o : ℕ × ObjectRow). l.base ≤ o.1.base) l.objects l.high (length l.objects);
}

abbrev pub decreases-loop-low : goal.decreases-loop-low
decreases-loop-low l = l.high - l.low

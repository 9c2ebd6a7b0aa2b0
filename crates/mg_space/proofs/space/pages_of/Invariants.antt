use Rattle.{mg_model.specs.State.ObjectRow, std.proofs.Common.{◌≡◌, ℕ, sum_by, take}}
use Rattle.mg_space.proofs.space.pages_of.Given as goal

abbrev pub invariant-loop-i : goal.invariant-loop-i
invariant-loop-i l = l.used ≡ sum_by (λ (o : ℕ × ObjectRow). o.1.pages) (take l.i l.objects)

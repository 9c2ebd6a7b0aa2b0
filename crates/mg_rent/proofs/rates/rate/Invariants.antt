use Rattle.{mg_model.specs.{Limits.step_limit, StepwiseLemmas.rate_from}, std.proofs.Common.{◌≡◌, ◌≤◌, drop}}
use Rattle.mg_rent.proofs.rates.rate.Given as goal

-- the steps so far gave this rate
abbrev pub invariant-loop-step : goal.invariant-loop-step
invariant-loop-step l = record {
  rate_is : rate_from l.rate (drop l.step-index l.step-items) l.used ≡ rate_from 0 l.fn.tariff l.used;
  few : l.rate ≤ step_limit;
}

use Rattle.{mg_model.specs.{StepwiseLemmas.rate_from, Tariff.is_tariff}, mg_rent.proofs.Steps.{AreSteps, rate-found, step-few, step-taken}}
use Rattle.{mg_rent.proofs.Steps.tariff-steps, std.proofs.Common.{◌≡◌, ◌<◌, ℕ, List, true, nat_le, length, get_or, subst, sym, arith}}
use Rattle.mg_rent.proofs.rates.rate.Goals as goal

pub loop-step-preserved : goal.loop-step-preserved
loop-step-preserved c =
    let i = c.loop-step.step-index in
    let steps : List (ℕ × ℕ) = c.steps-steps.result in
    let are : AreSteps steps = tariff-steps steps (subst (λ (tariff : List (ℕ × ℕ)). is_tariff tariff ≡ true) (sym c.steps-steps.ensures.value) c.steps-steps.ensures.rule) in
    let four = are.four in
    let test = c.loop-step-test.true in
    let within : i < length steps = omega arith in
    record {
      rate_is = step-taken c.loop-step.rate c.next_rate-rate.result steps i (0, 0) c.args.used (rate_from 0 c.args.tariff.now c.args.used) within c.next_rate-rate.ensures c.loop-step.invariant.rate_is;
      few = step-few c.loop-step.rate (get_or steps i (0, 0)).1 c.next_rate-rate.result (nat_le (get_or steps i (0, 0)).0 c.args.used) c.next_rate-rate.ensures (are.few i test) c.loop-step.invariant.few;
    }

pub returns-clause-rate : goal.returns-clause-rate
returns-clause-rate c =
    let steps : List (ℕ × ℕ) = c.steps-steps.result in
    let are : AreSteps steps = tariff-steps steps (subst (λ (tariff : List (ℕ × ℕ)). is_tariff tariff ≡ true) (sym c.steps-steps.ensures.value) c.steps-steps.ensures.rule) in
    let four = are.four in
    let past = c.loop-step-test.false in
    rate-found c.loop-step.rate c.loop-step.step-index c.args.used steps c.args.tariff.now (omega (arith, past)) c.loop-step.invariant.rate_is

use Rattle.mg_laws.proofs.BacksSteps.{call-backed, step-backed}
use Rattle.mg_laws.proofs.backing.steps_keep_backing.Goals as goal

pub returns-clause-steps : goal.returns-clause-steps
returns-clause-steps c = step-backed

pub returns-clause-calls : goal.returns-clause-calls
returns-clause-calls c = call-backed

use Rattle.mg_laws.proofs.{FreshFormed.fresh-formed, KeepsStep.{after-keeps, step-keeps}, LinesInRange.lines-in_range}
use Rattle.mg_laws.proofs.steps_keep_states_well_formed.Goals as goal

pub returns-clause-begins : goal.returns-clause-begins
returns-clause-begins c = fresh-formed

pub returns-clause-kept : goal.returns-clause-kept
returns-clause-kept c = step-keeps

pub returns-clause-read : goal.returns-clause-read
returns-clause-read c = lines-in_range

pub returns-clause-runs : goal.returns-clause-runs
returns-clause-runs c = after-keeps

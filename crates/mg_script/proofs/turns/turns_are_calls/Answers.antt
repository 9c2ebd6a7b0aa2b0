use Rattle.mg_script.proofs.TurnsBehind.{rows_backed, turns_behind}
use Rattle.mg_script.proofs.turns.turns_are_calls.Goals as goal

pub returns-clause-states : goal.returns-clause-states
returns-clause-states c = turns_behind c.calls_rest_on_no_register.ensures

pub returns-clause-backed : goal.returns-clause-backed
returns-clause-backed c = rows_backed c.backing_rests_on_the_domain.ensures.rests c.backing_rests_on_the_domain.ensures.frames

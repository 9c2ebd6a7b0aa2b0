use Rattle.mg_laws.proofs.WhateverState.{answered_whatever}
use Rattle.mg_laws.proofs.lines_are_answered_in_every_state.Goals as goal

pub returns : goal.returns
returns c = answered_whatever

use Rattle.mg_migrate.proofs.{LiftedBlocks.{keeps-places, replay-lifted}, LiftedState.replayed-lifted, LiftedVolume.volume-lifted}
use Rattle.mg_migrate.proofs.Volume1Reads.{replayed1-is}
use Rattle.mg_migrate.proofs.laws.lifted_images_spell_the_lifted_state.Goals as goal

pub returns-clause-replayed : goal.returns-clause-replayed
returns-clause-replayed c = replay-lifted

pub returns-clause-places : goal.returns-clause-places
returns-clause-places c = keeps-places

pub returns-clause-lift : goal.returns-clause-lift
returns-clause-lift c = replayed-lifted

pub returns-clause-volume : goal.returns-clause-volume
returns-clause-volume c = volume-lifted

pub returns-clause-old : goal.returns-clause-old
returns-clause-old c = replayed1-is

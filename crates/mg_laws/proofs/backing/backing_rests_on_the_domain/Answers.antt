use Rattle.mg_laws.proofs.{Backs.rests-backed, BacksThreads.frames-backed}
use Rattle.mg_laws.proofs.backing.backing_rests_on_the_domain.Goals as goal

pub returns-clause-rests : goal.returns-clause-rests
returns-clause-rests c = rests-backed

pub returns-clause-frames : goal.returns-clause-frames
returns-clause-frames c = frames-backed

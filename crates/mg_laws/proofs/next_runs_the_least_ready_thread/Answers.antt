use Rattle.mg_laws.proofs.NextReady.{next-ready}
use Rattle.mg_laws.proofs.next_runs_the_least_ready_thread.Goals as goal

pub returns : goal.returns
returns c = next-ready

use Rattle.mg_commands.proofs.Summed.{state_told}
use Rattle.mg_commands.proofs.checking.examined.Goals as goal

pub returns-in-Ok-clause-tells : goal.returns-in-Ok-clause-tells
returns-in-Ok-clause-tells g c = state_told c.summary_of.result c.in-Ok.rows (g.D.Disk.seen c.args.disk.now) c.in-Ok.ensures.told c.summary_of.ensures.told

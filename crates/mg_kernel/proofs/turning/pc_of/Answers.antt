use Rattle.mg_kernel.proofs.Turned.{row-gone}
use Rattle.mg_kernel.proofs.turning.pc_of.Goals as goal

pub unreachable-requires : goal.unreachable-requires
unreachable-requires c = row-gone c.args.volume.now c.args.thread c.requires.lives c.in-None.ensures.found

use Rattle.mg_disk.specs.Runs.{nothing_then}
use Rattle.mg_console.proofs.volumes.super_of.Goals as goal

pub returns-clause-writes : goal.returns-clause-writes
returns-clause-writes g c =
    nothing_then g.D.Disk c.args.disk.now c.has_read.new.disk c.has_read-else-block.new.disk c.has_read.ensures.writes c.has_read-else-block.ensures.writes

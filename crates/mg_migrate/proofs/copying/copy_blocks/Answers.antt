use Rattle.{mg_disk.specs.Disk.HasBlocks, mg_migrate.proofs.CopySteps.{of_contents, same_blocks}, std.proofs.Common.length}
use Rattle.mg_migrate.proofs.copying.copy_blocks.Goals as goal

pub returns-in-Ok-write_blocks-clause-copied : goal.returns-in-Ok-write_blocks-clause-copied
returns-in-Ok-write_blocks-clause-copied g c r read d now i at =
    let first = c.args.first in
    let blocks = c.read_blocks.new.out in
    same_blocks first (length c.args.blocks.now) blocks r d c.in-Ok.ensures.count
    (of_contents (g.C.Contents.of c.args.view.now) (g.E.Disk.seen c.args.old.now) (HasBlocks first blocks) c.in-Ok.ensures.read r read)
    (c.in-Ok-write_blocks.ensures.written d now) i at

use Rattle.{mg_migrate.{proofs.LiftedReads.blocks_so, specs.Lifted.table_shift}, std.proofs.Common.{◌-◌, ◌∙◌, sym, arith}}
use Rattle.std.proofs.lemmas.Result.{on_ok_weaker}
use Rattle.mg_migrate.proofs.lifting.LiftingContents.read_blocks.Goals as goal

pub returns-then-first-ge-TABLE_BLOCK-clause-read : goal.returns-then-first-ge-TABLE_BLOCK-clause-read
returns-then-first-ge-TABLE_BLOCK-clause-read g c =
    on_ok_weaker c.read_blocks.result
    (blocks_so c.args.self.now c.self.inside.view c.self.inside.params c.self.view_is (g.D.Disk.seen c.args.disk.now) c.read_blocks.new.out c.args.first (c.args.first - table_shift) (let same = c.read_blocks.ensures.count in let place = c.requires.place in omega arith) (omega arith) (omega arith))
    c.read_blocks.ensures.read

pub read-requires-clause-fits : goal.read-requires-clause-fits
read-requires-clause-fits g c image told = c.requires.fits image (sym c.loop-k.invariant.reads.writes.same ∙ told)

use Rattle.mg_migrate.{proofs.LiftedReads.{any_so, behind_so, fits_so, object_so, row_so}, specs.Lifted.table_shift}
use Rattle.{mg_model.specs.Layout.first_object_block, std.proofs.{Common.{◌-◌, refl, arith}, lemmas.Result.on_ok_weaker}}
use Rattle.mg_migrate.proofs.lifting.LiftingContents.read.Goals as goal

pub read-requires-clause-fits : goal.read-requires-clause-fits
read-requires-clause-fits g c = fits_so c.args.self.now c.self.inside.view c.self.inside.params c.self.view_is (g.D.Disk.seen c.args.disk.now) c.requires.fits

pub read_objects-requires-clause-fits : goal.read_objects-requires-clause-fits
read_objects-requires-clause-fits g c = fits_so c.args.self.now c.self.inside.view c.self.inside.params c.self.view_is (g.D.Disk.seen c.args.disk.now) c.requires.fits

pub read-requires-else-i-lt-TABLE_BLOCK-clause-fits : goal.read-requires-else-i-lt-TABLE_BLOCK-clause-fits
read-requires-else-i-lt-TABLE_BLOCK-clause-fits g c = fits_so c.args.self.now c.self.inside.view c.self.inside.params c.self.view_is (g.D.Disk.seen c.args.disk.now) c.requires.fits

pub returns-then-i-lt-GLOBALS_BLOCK-clause-block : goal.returns-then-i-lt-GLOBALS_BLOCK-clause-block
returns-then-i-lt-GLOBALS_BLOCK-clause-block g c =
    any_so c.args.self.now c.self.inside.view c.self.inside.params c.self.view_is (g.D.Disk.seen c.args.disk.now) c.write_front.new.out c.args.i c.requires.place c.write_front.ensures

pub returns-then-i-lt-FIRST_OBJECT_BLOCK-clause-block : goal.returns-then-i-lt-FIRST_OBJECT_BLOCK-clause-block
returns-then-i-lt-FIRST_OBJECT_BLOCK-clause-block g c =
    on_ok_weaker c.read.result
    (row_so c.args.self.now c.self.inside.view c.self.inside.params c.self.view_is (g.D.Disk.seen c.args.disk.now) c.read.new.out c.args.i c.requires.place (omega arith) (omega arith))
    c.read.ensures.block

pub returns-then-i-lt-TABLE_BLOCK-clause-block : goal.returns-then-i-lt-TABLE_BLOCK-clause-block
returns-then-i-lt-TABLE_BLOCK-clause-block g c =
    on_ok_weaker c.read_objects.result
    (object_so c.args.self.now c.self.inside.view c.self.inside.params c.self.view_is (g.D.Disk.seen c.args.disk.now) c.read_objects.new.out c.args.i (c.args.i - first_object_block) c.requires.place (omega arith) (omega arith) refl)
    c.read_objects.ensures.block

pub returns-else-i-lt-TABLE_BLOCK-clause-block : goal.returns-else-i-lt-TABLE_BLOCK-clause-block
returns-else-i-lt-TABLE_BLOCK-clause-block g c =
    on_ok_weaker c.read-else-i-lt-TABLE_BLOCK.result
    (behind_so c.args.self.now c.self.inside.view c.self.inside.params c.self.view_is (g.D.Disk.seen c.args.disk.now) c.read-else-i-lt-TABLE_BLOCK.new.out c.args.i (c.args.i - table_shift) c.requires.place (omega arith) (omega arith))
    c.read-else-i-lt-TABLE_BLOCK.ensures.block

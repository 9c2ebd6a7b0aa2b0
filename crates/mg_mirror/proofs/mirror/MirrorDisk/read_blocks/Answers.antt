use Rattle.{mg_disk.specs.{Disk.no_image, Runs.time_none}, mg_mirror.proofs.MirrorCalls.quiet_along, std.proofs.Common.refl}
use Rattle.mg_mirror.proofs.mirror.MirrorDisk.read_blocks.Goals as goal

pub returns-in-Ok-clause-stops : goal.returns-in-Ok-clause-stops
returns-in-Ok-clause-stops g c =
    let was = c.args.self.now in
    quiet_along g.D.Disk g.E.Disk was.blocks was.alone was.left c.read_blocks.new.self was.right was.right c.read_blocks.ensures.tells refl c.read_blocks.ensures.stops (time_none g.E.Disk was.right no_image (g.met.E.Disk.now_has_been was.right))

pub returns-in-Ok-read_blocks-clause-stops : goal.returns-in-Ok-read_blocks-clause-stops
returns-in-Ok-read_blocks-clause-stops g c =
    let was = c.args.self.now in
    quiet_along g.D.Disk g.E.Disk was.blocks was.alone was.left c.read_blocks.new.self was.right c.read_blocks-in-Err.new.self c.read_blocks.ensures.tells c.read_blocks-in-Err.ensures.tells c.read_blocks.ensures.stops c.read_blocks-in-Err.ensures.stops

pub returns-in-Err-read_blocks-clause-stops : goal.returns-in-Err-read_blocks-clause-stops
returns-in-Err-read_blocks-clause-stops g c =
    let was = c.args.self.now in
    quiet_along g.D.Disk g.E.Disk was.blocks was.alone was.left c.read_blocks.new.self was.right c.read_blocks-in-Err.new.self c.read_blocks.ensures.tells c.read_blocks-in-Err.ensures.tells c.read_blocks.ensures.stops c.read_blocks-in-Err.ensures.stops

pub returns-in-Ok-read_blocks-2-clause-stops : goal.returns-in-Ok-read_blocks-2-clause-stops
returns-in-Ok-read_blocks-2-clause-stops g c =
    let was = c.args.self.now in
    quiet_along g.D.Disk g.E.Disk was.blocks was.alone was.left c.read_blocks-in-Some-Left.new.self was.right was.right c.read_blocks-in-Some-Left.ensures.tells refl c.read_blocks-in-Some-Left.ensures.stops (time_none g.E.Disk was.right no_image (g.met.E.Disk.now_has_been was.right))

pub returns-in-Err-read_blocks-2-clause-stops : goal.returns-in-Err-read_blocks-2-clause-stops
returns-in-Err-read_blocks-2-clause-stops g c =
    let was = c.args.self.now in
    quiet_along g.D.Disk g.E.Disk was.blocks was.alone was.left c.read_blocks-in-Some-Left.new.self was.right was.right c.read_blocks-in-Some-Left.ensures.tells refl c.read_blocks-in-Some-Left.ensures.stops (time_none g.E.Disk was.right no_image (g.met.E.Disk.now_has_been was.right))

pub returns-in-Ok-read_blocks-3-clause-stops : goal.returns-in-Ok-read_blocks-3-clause-stops
returns-in-Ok-read_blocks-3-clause-stops g c =
    let was = c.args.self.now in
    quiet_along g.D.Disk g.E.Disk was.blocks was.alone was.left was.left was.right c.read_blocks-in-Some-Right.new.self refl c.read_blocks-in-Some-Right.ensures.tells (time_none g.D.Disk was.left no_image (g.met.D.Disk.now_has_been was.left)) c.read_blocks-in-Some-Right.ensures.stops

pub returns-in-Err-read_blocks-3-clause-stops : goal.returns-in-Err-read_blocks-3-clause-stops
returns-in-Err-read_blocks-3-clause-stops g c =
    let was = c.args.self.now in
    quiet_along g.D.Disk g.E.Disk was.blocks was.alone was.left was.left was.right c.read_blocks-in-Some-Right.new.self refl c.read_blocks-in-Some-Right.ensures.tells (time_none g.D.Disk was.left no_image (g.met.D.Disk.now_has_been was.left)) c.read_blocks-in-Some-Right.ensures.stops

use Rattle.{mg_disk.specs.Disk.{InRange, TornAt}, mg_mirror.proofs.MirrorCalls.{LeftOf, alike_after, goes_dropped, has_left, has_right, write_both}}
use Rattle.{mg_mirror.{proofs.MirrorCalls.{write_left, write_right}, specs.declared.mirror.Side.TheVariants.{Left, Right}}, std.proofs.Common.◌≡◌}
use Rattle.std.proofs.Common.{◌≢◌, Some, length, rules}
use Rattle.mg_mirror.proofs.mirror.MirrorDisk.write_blocks.Goals as goal

pub invariant_of-self-clause-same : goal.invariant_of-self-clause-same
invariant_of-self-clause-same g c =
    let was = c.args.self.now in
    alike_after was.blocks c.args.first c.args.from.now was.alone (g.D.Disk.seen was.left) (g.E.Disk.seen was.right) (g.D.Disk.seen c.write_blocks-left.new.self) (g.E.Disk.seen c.write_blocks-right.new.self) was.same
    c.write_blocks-left.ensures.unknown c.write_blocks-right.ensures.unknown (search rules) (search rules)

pub returns-in-Ok-Ok-clause-stops : goal.returns-in-Ok-Ok-clause-stops
returns-in-Ok-Ok-clause-stops g c = search (rules, write_both)

pub returns-in-Ok-Err-clause-stops : goal.returns-in-Ok-Err-clause-stops
returns-in-Ok-Err-clause-stops g c =
    let was = c.args.self.now in
    let places = InRange c.args.first (length c.args.from.now) in
    goes_dropped g.D.Disk g.E.Disk was.blocks was.alone Left was.left c.write_blocks-left.new.self was.right c.write_blocks-right.new.self (TornAt places (LeftOf g.D.Disk g.E.Disk was.blocks was.alone was.left was.right)) c.in-None.is
    (g.met.D.Disk.now_has_been c.write_blocks-left.new.self) (g.met.E.Disk.now_has_been c.write_blocks-right.new.self)
    (write_both g.D.Disk g.E.Disk was.blocks was.alone was.left c.write_blocks-left.new.self was.right c.write_blocks-right.new.self places c.in-None.is c.write_blocks-left.ensures.tells c.write_blocks-right.ensures.tells
    c.write_blocks-left.ensures.stops c.write_blocks-right.ensures.stops)

pub returns-in-Err-Ok-clause-stops : goal.returns-in-Err-Ok-clause-stops
returns-in-Err-Ok-clause-stops g c =
    let was = c.args.self.now in
    let places = InRange c.args.first (length c.args.from.now) in
    goes_dropped g.D.Disk g.E.Disk was.blocks was.alone Right was.left c.write_blocks-left.new.self was.right c.write_blocks-right.new.self (TornAt places (LeftOf g.D.Disk g.E.Disk was.blocks was.alone was.left was.right)) c.in-None.is
    (g.met.D.Disk.now_has_been c.write_blocks-left.new.self) (g.met.E.Disk.now_has_been c.write_blocks-right.new.self)
    (write_both g.D.Disk g.E.Disk was.blocks was.alone was.left c.write_blocks-left.new.self was.right c.write_blocks-right.new.self places c.in-None.is c.write_blocks-left.ensures.tells c.write_blocks-right.ensures.tells
    c.write_blocks-left.ensures.stops c.write_blocks-right.ensures.stops)

pub returns-in-Err-Err-clause-stops : goal.returns-in-Err-Err-clause-stops
returns-in-Err-Err-clause-stops g c =
    let was = c.args.self.now in
    let places = InRange c.args.first (length c.args.from.now) in
    goes_dropped g.D.Disk g.E.Disk was.blocks was.alone Left was.left c.write_blocks-left.new.self was.right c.write_blocks-right.new.self (TornAt places (LeftOf g.D.Disk g.E.Disk was.blocks was.alone was.left was.right)) c.in-None.is
    (g.met.D.Disk.now_has_been c.write_blocks-left.new.self) (g.met.E.Disk.now_has_been c.write_blocks-right.new.self)
    (write_both g.D.Disk g.E.Disk was.blocks was.alone was.left c.write_blocks-left.new.self was.right c.write_blocks-right.new.self places c.in-None.is c.write_blocks-left.ensures.tells c.write_blocks-right.ensures.tells
    c.write_blocks-left.ensures.stops c.write_blocks-right.ensures.stops)

pub returns-in-Ok-clause-written : goal.returns-in-Ok-clause-written
returns-in-Ok-clause-written g c = search (rules, has_left)

pub returns-in-Ok-clause-stops : goal.returns-in-Ok-clause-stops
returns-in-Ok-clause-stops g c =
    let was = c.args.self.now in
    let alone : was.alone ≡ Some Left = search rules in
    write_left g.D.Disk g.E.Disk was.blocks was.alone was.left c.write_blocks.new.self was.right (InRange c.args.first (length c.args.from.now)) alone (g.met.E.Disk.now_has_been was.right) c.write_blocks.ensures.tells c.write_blocks.ensures.stops

pub returns-in-Err-clause-stops : goal.returns-in-Err-clause-stops
returns-in-Err-clause-stops g c =
    let was = c.args.self.now in
    let alone : was.alone ≡ Some Left = search rules in
    write_left g.D.Disk g.E.Disk was.blocks was.alone was.left c.write_blocks.new.self was.right (InRange c.args.first (length c.args.from.now)) alone (g.met.E.Disk.now_has_been was.right) c.write_blocks.ensures.tells c.write_blocks.ensures.stops

pub returns-in-Ok-write_blocks-clause-written : goal.returns-in-Ok-write_blocks-clause-written
returns-in-Ok-write_blocks-clause-written g c =
    let was = c.args.self.now in
    let alone : was.alone ≢ Some Left = search rules in
    has_right was.blocks c.args.first c.args.from.now was.alone (g.D.Disk.seen was.left) (g.E.Disk.seen c.write_blocks-in-Some-Right.new.self) c.requires.in_range alone (search rules) c.in-Ok-write_blocks.ensures.written

pub returns-in-Ok-write_blocks-clause-stops : goal.returns-in-Ok-write_blocks-clause-stops
returns-in-Ok-write_blocks-clause-stops g c =
    let was = c.args.self.now in
    let alone : was.alone ≡ Some Right = search rules in
    write_right g.D.Disk g.E.Disk was.blocks was.alone was.left was.right c.write_blocks-in-Some-Right.new.self (InRange c.args.first (length c.args.from.now)) alone (g.met.D.Disk.now_has_been was.left) c.write_blocks-in-Some-Right.ensures.tells c.write_blocks-in-Some-Right.ensures.stops

pub returns-in-Err-write_blocks-clause-stops : goal.returns-in-Err-write_blocks-clause-stops
returns-in-Err-write_blocks-clause-stops g c =
    let was = c.args.self.now in
    let alone : was.alone ≡ Some Right = search rules in
    write_right g.D.Disk g.E.Disk was.blocks was.alone was.left was.right c.write_blocks-in-Some-Right.new.self (InRange c.args.first (length c.args.from.now)) alone (g.met.D.Disk.now_has_been was.left) c.write_blocks-in-Some-Right.ensures.tells c.write_blocks-in-Some-Right.ensures.stops

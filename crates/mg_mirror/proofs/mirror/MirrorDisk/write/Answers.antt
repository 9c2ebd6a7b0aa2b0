use Rattle.{mg_disk.specs.Disk.{SeenBut, only_place, TornAt}, mg_mirror.proofs.MirrorCalls.{LeftOf, write_both, write_left, write_right}}
use Rattle.mg_mirror.proofs.MirrorCalls.{goes_dropped, wrote_both, wrote_left, wrote_right, wrote_only_left, wrote_only_right, same_after}
use Rattle.{mg_mirror.specs.{MirrorLemmas.told_but, declared.mirror.Side.TheVariants.{Left, Right}}, std.proofs.Common.{◌≡◌, Some, rules, inl}}
use Rattle.std.{proofs.Common.slice_set, specs.Prelude.option_map}
use Rattle.mg_mirror.proofs.mirror.MirrorDisk.write.Goals as goal

pub invariant_of-self-clause-same : goal.invariant_of-self-clause-same
invariant_of-self-clause-same g c =
    let was = c.args.self.now in
    let put_left : g.D.Disk.seen c.write_both-left.new.left ≡ option_map (λ image. slice_set image c.args.i c.args.from.now) (g.D.Disk.seen was.left) = search rules in
    let put_right : g.E.Disk.seen c.write_both-left.new.right ≡ option_map (λ image. slice_set image c.args.i c.args.from.now) (g.E.Disk.seen was.right) = search rules in
    same_after was.blocks c.args.i c.args.from.now was.alone (g.D.Disk.seen was.left) (g.E.Disk.seen was.right) (g.D.Disk.seen c.write_both-left.new.left) (g.E.Disk.seen c.write_both-left.new.right) c.requires.in_range was.same put_left put_right

pub returns-in-Ok-Ok-clause-written : goal.returns-in-Ok-Ok-clause-written
returns-in-Ok-Ok-clause-written g c =
    let was = c.args.self.now in
    let put_left : g.D.Disk.seen c.write_both-left.new.left ≡ option_map (λ image. slice_set image c.args.i c.args.from.now) (g.D.Disk.seen was.left) = search rules in
    let put_right : g.E.Disk.seen c.write_both-left.new.right ≡ option_map (λ image. slice_set image c.args.i c.args.from.now) (g.E.Disk.seen was.right) = search rules in
    wrote_both was.blocks c.args.i c.args.from.now c.requires.in_range was.alone (g.D.Disk.seen was.left) (g.E.Disk.seen was.right) (g.D.Disk.seen c.write_both-left.new.left) (g.E.Disk.seen c.write_both-left.new.right) c.in-None.is put_left put_right

pub returns-in-Ok-Ok-clause-stops : goal.returns-in-Ok-Ok-clause-stops
returns-in-Ok-Ok-clause-stops g c = search (rules, write_both)

pub returns-in-Ok-Err-clause-written : goal.returns-in-Ok-Err-clause-written
returns-in-Ok-Err-clause-written g c =
    let was = c.args.self.now in
    let put_left : g.D.Disk.seen c.write_both-left.new.left ≡ option_map (λ image. slice_set image c.args.i c.args.from.now) (g.D.Disk.seen was.left) = search rules in
    let but_right : SeenBut (only_place c.args.i) (g.E.Disk.seen was.right) (g.E.Disk.seen c.write_both-left.new.right) = search rules in
    wrote_left was.blocks c.args.i c.args.from.now c.requires.in_range was.alone (g.D.Disk.seen was.left) (g.E.Disk.seen was.right) (g.D.Disk.seen c.write_both-left.new.left) (g.E.Disk.seen c.write_both-left.new.right) (inl c.in-None.is) put_left (told_but (only_place c.args.i) (g.E.Disk.seen was.right) (g.E.Disk.seen c.write_both-left.new.right) but_right)

pub returns-in-Ok-Err-clause-stops : goal.returns-in-Ok-Err-clause-stops
returns-in-Ok-Err-clause-stops g c =
    let was = c.args.self.now in
    goes_dropped g.D.Disk g.E.Disk was.blocks was.alone Left was.left c.write_both-left.new.left was.right c.write_both-left.new.right (TornAt (only_place c.args.i) (LeftOf g.D.Disk g.E.Disk was.blocks was.alone was.left was.right)) c.in-None.is (g.met.D.Disk.now_has_been c.write_both-left.new.left) (g.met.E.Disk.now_has_been c.write_both-left.new.right)
    (write_both g.D.Disk g.E.Disk was.blocks was.alone was.left c.write_both-left.new.left was.right c.write_both-left.new.right (only_place c.args.i) c.in-None.is c.write_both-left.ensures.on_left.rules.tells c.write_both-left.ensures.on_right.rules.tells c.write_both-left.ensures.on_left.rules.stops c.write_both-left.ensures.on_right.rules.stops)

pub returns-in-Err-Ok-clause-written : goal.returns-in-Err-Ok-clause-written
returns-in-Err-Ok-clause-written g c =
    let was = c.args.self.now in
    let but_left : SeenBut (only_place c.args.i) (g.D.Disk.seen was.left) (g.D.Disk.seen c.write_both-left.new.left) = search rules in
    let put_right : g.E.Disk.seen c.write_both-left.new.right ≡ option_map (λ image. slice_set image c.args.i c.args.from.now) (g.E.Disk.seen was.right) = search rules in
    wrote_right was.blocks c.args.i c.args.from.now c.requires.in_range was.alone (g.D.Disk.seen was.left) (g.E.Disk.seen was.right) (g.D.Disk.seen c.write_both-left.new.left) (g.E.Disk.seen c.write_both-left.new.right) c.in-None.is (was.same c.in-None.is) put_right (told_but (only_place c.args.i) (g.D.Disk.seen was.left) (g.D.Disk.seen c.write_both-left.new.left) but_left)

pub returns-in-Err-Ok-clause-stops : goal.returns-in-Err-Ok-clause-stops
returns-in-Err-Ok-clause-stops g c =
    let was = c.args.self.now in
    goes_dropped g.D.Disk g.E.Disk was.blocks was.alone Right was.left c.write_both-left.new.left was.right c.write_both-left.new.right (TornAt (only_place c.args.i) (LeftOf g.D.Disk g.E.Disk was.blocks was.alone was.left was.right)) c.in-None.is (g.met.D.Disk.now_has_been c.write_both-left.new.left) (g.met.E.Disk.now_has_been c.write_both-left.new.right)
    (write_both g.D.Disk g.E.Disk was.blocks was.alone was.left c.write_both-left.new.left was.right c.write_both-left.new.right (only_place c.args.i) c.in-None.is c.write_both-left.ensures.on_left.rules.tells c.write_both-left.ensures.on_right.rules.tells c.write_both-left.ensures.on_left.rules.stops c.write_both-left.ensures.on_right.rules.stops)

pub returns-in-Err-Err-clause-stops : goal.returns-in-Err-Err-clause-stops
returns-in-Err-Err-clause-stops g c =
    let was = c.args.self.now in
    goes_dropped g.D.Disk g.E.Disk was.blocks was.alone Left was.left c.write_both-left.new.left was.right c.write_both-left.new.right (TornAt (only_place c.args.i) (LeftOf g.D.Disk g.E.Disk was.blocks was.alone was.left was.right)) c.in-None.is (g.met.D.Disk.now_has_been c.write_both-left.new.left) (g.met.E.Disk.now_has_been c.write_both-left.new.right)
    (write_both g.D.Disk g.E.Disk was.blocks was.alone was.left c.write_both-left.new.left was.right c.write_both-left.new.right (only_place c.args.i) c.in-None.is c.write_both-left.ensures.on_left.rules.tells c.write_both-left.ensures.on_right.rules.tells c.write_both-left.ensures.on_left.rules.stops c.write_both-left.ensures.on_right.rules.stops)

pub returns-in-Ok-clause-written : goal.returns-in-Ok-clause-written
returns-in-Ok-clause-written g c =
    let was = c.args.self.now in
    let alone : was.alone ≡ Some Left = search rules in
    wrote_only_left was.blocks c.args.i c.args.from.now c.requires.in_range was.alone (g.D.Disk.seen was.left) (g.E.Disk.seen was.right) (g.D.Disk.seen c.write.new.self) alone c.in-Ok.ensures.written

pub returns-in-Ok-clause-stops : goal.returns-in-Ok-clause-stops
returns-in-Ok-clause-stops g c =
    let was = c.args.self.now in
    let alone : was.alone ≡ Some Left = search rules in
    write_left g.D.Disk g.E.Disk was.blocks was.alone was.left c.write.new.self was.right (only_place c.args.i) alone (g.met.E.Disk.now_has_been was.right) c.write.ensures.tells c.write.ensures.stops

pub returns-in-Err-clause-stops : goal.returns-in-Err-clause-stops
returns-in-Err-clause-stops g c =
    let was = c.args.self.now in
    let alone : was.alone ≡ Some Left = search rules in
    write_left g.D.Disk g.E.Disk was.blocks was.alone was.left c.write.new.self was.right (only_place c.args.i) alone (g.met.E.Disk.now_has_been was.right) c.write.ensures.tells c.write.ensures.stops

pub returns-in-Ok-write-clause-written : goal.returns-in-Ok-write-clause-written
returns-in-Ok-write-clause-written g c =
    let was = c.args.self.now in
    let alone : was.alone ≡ Some Right = search rules in
    wrote_only_right was.blocks c.args.i c.args.from.now c.requires.in_range was.alone (g.D.Disk.seen was.left) (g.E.Disk.seen was.right) (g.E.Disk.seen c.write-in-Some-Right.new.self) alone c.in-Ok-write.ensures.written

pub returns-in-Ok-write-clause-stops : goal.returns-in-Ok-write-clause-stops
returns-in-Ok-write-clause-stops g c =
    let was = c.args.self.now in
    let alone : was.alone ≡ Some Right = search rules in
    write_right g.D.Disk g.E.Disk was.blocks was.alone was.left was.right c.write-in-Some-Right.new.self (only_place c.args.i) alone (g.met.D.Disk.now_has_been was.left) c.write-in-Some-Right.ensures.tells c.write-in-Some-Right.ensures.stops

pub returns-in-Err-write-clause-stops : goal.returns-in-Err-write-clause-stops
returns-in-Err-write-clause-stops g c =
    let was = c.args.self.now in
    let alone : was.alone ≡ Some Right = search rules in
    write_right g.D.Disk g.E.Disk was.blocks was.alone was.left was.right c.write-in-Some-Right.new.self (only_place c.args.i) alone (g.met.D.Disk.now_has_been was.left) c.write-in-Some-Right.ensures.tells c.write-in-Some-Right.ensures.stops

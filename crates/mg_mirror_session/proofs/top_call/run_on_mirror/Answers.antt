use Rattle.{mg_mirror.specs.Opened.{BothRose, RoseFrom}, mg_mirror_session.proofs.{Opening.{opened_from, opened_since}, Refusing.left_copied}}
use Rattle.mg_mirror_session.proofs.Refusing.{no_fault, not_opened, not_read, read_left, read_right, refused, right_copied, side_judged}
use Rattle.{mg_mirror_session.{proofs.RunsOnMirror.mirror_keeps, specs.{Mirrored.Two, Ran.as_two}}, std.proofs.Common.{refl, rules, subst, sym}}
use Rattle.std.specs.Prelude.{◌≡◌, None, Ok, Some, length, min}
use Rattle.mg_mirror_session.proofs.top_call.run_on_mirror.Goals as goal

pub returns-in-Ok-Some : goal.returns-in-Ok-Some
returns-in-Ok-Some g c =
    let d = g.D.Disk in
    let e = g.E.Disk in
    let read = c.read_first.new in
    let told = c.in-Ok-Some.ensures in
    let put = c.put_fault-status in
    let judged = side_judged d e c.args.from c.args.left read.left c.args.right read.right read.first c.in-Ok-Some.field-0 (Some c.in-Ok-Some.fault) c.in-Ok-Some.field-0-is told.left told.right told.left_alone told.right_alone in
    let room : length read.first ≡ min (min (d.block_count c.args.left) (e.block_count c.args.right)) 32 = search rules in
    refused d e g.S.Source g.K.Sink c.args.from c.args.left read.left c.args.right read.right read.first c.args.source.now c.args.sink.now c.args.steps.now
    (g.met.D.Disk.now_has_been c.args.left) (g.met.E.Disk.now_has_been c.args.right) (g.met.D.Disk.seen_count c.args.left) (g.met.E.Disk.seen_count c.args.right) room
    c.in-Ok-Some.fault judged put.result put.new.sink put.ensures.sink put.ensures.ends put.ensures.put put.ensures.prefix

pub returns-in-Err-open_behind : goal.returns-in-Err-open_behind
returns-in-Err-open_behind g c =
    let d = g.D.Disk in
    let e = g.E.Disk in
    let read = c.read_first.new in
    let told = c.in-Ok-None.ensures in
    let disks = c.in-Err-open_behind.field-0 in
    let back = c.in-Err-open_behind.ensures.opens in
    let judged = side_judged d e c.args.from c.args.left read.left c.args.right read.right read.first c.in-Ok-None.field-0 None c.in-Ok-None.field-0-is told.left told.right told.left_alone told.right_alone in
    let room : length read.first ≡ min (min (d.block_count c.args.left) (e.block_count c.args.right)) 32 = search rules in
    not_opened d e g.S.Source g.K.Sink c.args.from c.args.left read.left c.args.right read.right read.first c.args.source.now c.args.sink.now c.args.steps.now
    (g.met.D.Disk.now_has_been c.args.left) (g.met.E.Disk.now_has_been c.args.right) (g.met.D.Disk.seen_count c.args.left) (g.met.E.Disk.seen_count c.args.right) room
    disks.left disks.right judged back.left_back back.right_back back.left_cause back.right_cause back.right_torn back.left_torn

pub returns : goal.returns
returns g c =
    let d = g.D.Disk in
    let e = g.E.Disk in
    let read = c.read_first.new in
    let told = c.in-Ok-None.ensures in
    let opens = c.in-Ok.ensures.opens in
    let opened = as_two d e g.O.Opened c.in-Ok.mirror in
    let ended = c.run_opened.result in
    let ran = c.run_opened.ensures in
    let closed : Two g.row.D.Denot g.row.E.Denot = record { left = ended.2; right = ended.3; blocks = opened.blocks; alone = ended.1; failed = ran.failed } in
    let judged = side_judged d e c.args.from c.args.left read.left c.args.right read.right read.first c.in-Ok-None.field-0 None c.in-Ok-None.field-0-is told.left told.right told.left_alone told.right_alone in
    let room : length read.first ≡ min (min (d.block_count c.args.left) (e.block_count c.args.right)) 32 = search rules in
    let left_been = g.met.D.Disk.now_has_been c.args.left in
    let right_been = g.met.E.Disk.now_has_been c.args.right in
    let left_count = g.met.D.Disk.seen_count c.args.left in
    let right_count = g.met.E.Disk.seen_count c.args.right in
    mirror_keeps d e g.S.Source g.K.Sink c.args.from c.args.left c.args.right opened closed ran.ran ended.0 c.args.source.now c.run_opened.new.source
    c.args.sink.now ran.replied c.run_opened.new.sink c.args.steps.now c.run_opened.new.steps
    (opened_since d e c.args.left read.left c.args.right read.right
    (read_left d e c.args.left read.left c.args.right read.right read.first (Ok None) left_been right_been c.args.from judged) (read_right d e c.args.left read.left c.args.right read.right read.first (Ok None) left_been right_been c.args.from judged)
    c.args.from opened left_been right_been
    (opened_from d e g.met.D.Disk.seen_may_stay g.met.E.Disk.seen_may_stay c.args.from read.left read.right opened opens.left_reads opens.right_reads opens.left_found opens.right_found
    opens.blocks opens.left_serves opens.right_serves opens.left_kept opens.right_kept
    (λ is. right_copied d e c.args.from c.args.left read.left c.args.right read.right read.first None left_count right_count room judged opened.blocks opened.right refl left_been right_been opens.blocks is (opens.right_copy is))
    (λ is. left_copied d e c.args.from c.args.left read.left c.args.right read.right read.first None left_count right_count room judged opened.blocks opened.left refl left_been right_been opens.blocks is (opens.left_copy is))))
    refl ran.keeps ran.ends ran.before ran.after
    (λ some.
    subst (λ n. BothRose n (d.faults ended.2) (d.is_spent ended.2) (e.faults c.args.right) (e.faults ended.3) (e.is_spent ended.3)) (sym c.requires.left_faults)
    (subst (λ n. BothRose g.O.Opened.left_faults (d.faults ended.2) (d.is_spent ended.2) n (e.faults ended.3) (e.is_spent ended.3)) (sym c.requires.right_faults) (ran.both some)))
    ran.right_out ran.left_out
    (g.met.D.Disk.only_told ended.2) (g.met.E.Disk.only_told ended.3) left_count right_count
    (no_fault d e c.args.from c.args.left read.left c.args.right read.right read.first None left_count right_count room judged refl)
    (λ is. subst (λ n. RoseFrom n (e.faults ended.3) (e.is_spent ended.3)) (sym c.requires.right_faults) (ran.dropped_right is))
    (λ is. subst (λ n. RoseFrom n (d.faults ended.2) (d.is_spent ended.2)) (sym c.requires.left_faults) (ran.dropped_left is))

pub returns-in-Err : goal.returns-in-Err
returns-in-Err g c =
    let read = c.read_first.new in
    let told = c.in-Err.ensures in
    not_read g.D.Disk g.E.Disk g.S.Source g.K.Sink c.args.from c.args.left read.left c.args.right read.right read.first c.args.source.now c.args.sink.now c.args.steps.now
    (g.met.D.Disk.now_has_been c.args.left) (g.met.E.Disk.now_has_been c.args.right) c.in-Err.field-0
    (record { on_left = told.left; on_right = told.right; left_alone = told.left_alone; right_alone = told.right_alone })

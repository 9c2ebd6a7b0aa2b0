use Rattle.{mg_disk.specs.{Disk.{Image, SeenBut, only_place}, Stops.NothingPending}, mg_journal.specs.ResultLemmas.on_ok_both}
use Rattle.{mg_migrate.proofs.CopySteps.{all_made, first_phase, second_phase, stands_closed, third_phase}, mg_model.specs.Layout.gate_block}
use Rattle.{mg_model.specs.{Layout.gate_open, Volume.gate_byte}, std.proofs.{Common.{◌≡◌, ◌≤◌, length, arith, Some}, lemmas.Result.on_ok_weaker}}
use Rattle.std.specs.Option.{ForSome}
use Rattle.mg_migrate.proofs.copying.copy.Goals as goal

pub returns-in_err-write_gate-clause-any_moment : goal.returns-in_err-write_gate-clause-any_moment
returns-in_err-write_gate-clause-any_moment g c r read = first_phase g.D.Disk (g.C.Contents.total c.args.view.now) r c.args.new.now c.write_gate.new.new c.write_gate.ensures.any_moment

pub returns-in_err-copy_behind-clause-any_moment : goal.returns-in_err-copy_behind-clause-any_moment
returns-in_err-copy_behind-clause-any_moment g c r read =
    let n = g.C.Contents.total c.args.view.now in
    let first = c.args.new.now in
    second_phase g.D.Disk n r first c.write_gate.new.new c.copy_behind.new.new c.in_ok-write_gate.ensures.settled c.in_ok-write_gate.ensures.byte
    (first_phase g.D.Disk n r first c.write_gate.new.new c.write_gate.ensures.any_moment)
    c.copy_behind.ensures.any_moment

pub returns-in_err-copy_behind-clause-closed : goal.returns-in_err-copy_behind-clause-closed
returns-in_err-copy_behind-clause-closed g c is =
    stands_closed g.D.Disk c.write_gate.new.new c.copy_behind.new.new c.copy_behind.ensures.seen c.in_ok-write_gate.ensures.byte c.in_ok-write_gate.ensures.settled c.copy_behind.ensures.any_moment

pub returns-clause-any_moment : goal.returns-clause-any_moment
returns-clause-any_moment g c r read =
    let n = g.C.Contents.total c.args.view.now in
    let first = c.args.new.now in
    let long = λ (s : Image) (is : g.D.Disk.seen c.copy_behind.new.new ≡ Some s). let count = g.met.D.Disk.seen_count c.copy_behind.new.new s is in let room = c.requires.within_disk in let one = c.write_gate.ensures.calls.blocks in let two = c.copy_behind.ensures.calls.blocks in let fits : n ≤ length s = omega arith in fits in
    third_phase g.D.Disk n r first c.copy_behind.new.new c.write_gate-2.new.new c.in_ok-copy_behind.ensures.settled long (c.in_ok-copy_behind.ensures.copied r read)
    (second_phase g.D.Disk n r first c.write_gate.new.new c.copy_behind.new.new c.in_ok-write_gate.ensures.settled c.in_ok-write_gate.ensures.byte
    (first_phase g.D.Disk n r first c.write_gate.new.new c.write_gate.ensures.any_moment)
    c.copy_behind.ensures.any_moment)
    c.write_gate-2.ensures.any_moment

pub returns-clause-copied : goal.returns-clause-copied
returns-clause-copied g c =
    let n = g.C.Contents.total c.args.view.now in
    let new = g.D.Disk.seen c.write_gate-2.new.new in
    let Opened = ForSome new (λ d. gate_byte d ≡ gate_open) in
    let Seen = SeenBut (only_place gate_block) (g.D.Disk.seen c.copy_behind.new.new) new in
    let Settled = NothingPending g.D.Disk c.write_gate-2.new.new in
    let long = λ (s : Image) (is : g.D.Disk.seen c.copy_behind.new.new ≡ Some s). let count = g.met.D.Disk.seen_count c.copy_behind.new.new s is in let room = c.requires.within_disk in let one = c.write_gate.ensures.calls.blocks in let two = c.copy_behind.ensures.calls.blocks in let fits : n ≤ length s = omega arith in fits in
    on_ok_weaker c.write_gate-2.result
    (λ all.
    record {
      reads = λ r read.
          all_made n r (g.D.Disk.seen c.args.new.now) (g.D.Disk.seen c.write_gate.new.new) (g.D.Disk.seen c.copy_behind.new.new) new c.in_ok-write_gate.ensures.seen c.copy_behind.ensures.seen all.1.0
          long (c.in_ok-copy_behind.ensures.copied r read) all.0;
      settled = all.1.1;
    })
    (on_ok_both Opened (Seen × Settled) c.write_gate-2.result c.write_gate-2.ensures.byte (on_ok_both Seen Settled c.write_gate-2.result c.write_gate-2.ensures.seen c.write_gate-2.ensures.settled))

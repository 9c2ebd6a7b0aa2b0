use Rattle.{mg_commands.specs.Headline.{RunKeeps, session_of}, mg_mirror.specs.Opened.{BothRose, RoseFrom}}
use Rattle.mg_mirror_session.{proofs.{Copying.{left_stayed, right_stayed}, Through.through}, specs.{Mirrored.{Two, mirror}, Ran.as_two}}
use Rattle.{mg_serve.specs.Sessions.use_of, std.{proofs.Common.{subst, sym, ◌∙◌}, specs.{Option.ForSome, Prelude.◌≡◌}}}
use Rattle.mg_mirror_session.proofs.top_call.run_opened.Goals as goal

pub returns : goal.returns
returns g c =
    let d = g.D.Disk in
    let e = g.E.Disk in
    let first = c.args.mirror in
    let known = c.known-mirror.result in
    let disk = c.run-ran.new.disk in
    let left = c.sides-left.result.0 in
    let right = c.sides-left.result.1 in
    let ran = c.run-ran.result in
    let same = c.known-mirror.ensures in
    let told = c.sides-left.ensures in
    let opened_is : as_two d e g.J.Opened known ≡ as_two d e g.O.Opened first = λ i. record { left = same.left i; right = same.right i; blocks = same.blocks i; alone = same.alone i; failed = same.count i } in
    let closed : Two g.row.D.Denot g.row.E.Denot = record { left = left; right = right; blocks = first.blocks; alone = c.alone-alone.result; failed = disk.count } in
    let source = use_of g.S.Source c.args.source.now c.run-ran.new.source in
    let sink = use_of g.K.Sink c.args.sink.now c.run-ran.new.sink in
    let blocks = c.run-ran.ensures.disk_blocks ∙ same.blocks in
    let left_is = sym told.left in
    let right_is = sym told.right in
    let alone_is = sym c.alone-alone.ensures.alone in
    let closed_is : as_two d e g.J.Opened disk ≡ closed = λ i. record { left = left_is i; right = right_is i; blocks = blocks i; alone = alone_is i; failed = disk.count } in
    record {
      failed = disk.count;
      ran = ran;
      replied = c.run-ran.new.sink;
      keeps = subst (λ o. RunKeeps (session_of 1 ran (use_of (mirror d e) o closed) source sink c.args.steps.now c.run-ran.new.steps)) opened_is
          (subst (λ x. RunKeeps (session_of 1 ran (use_of (mirror d e) (as_two d e g.J.Opened known) x) source sink c.args.steps.now c.run-ran.new.steps)) closed_is
          (through (mirror d e) (as_two d e g.J.Opened) 1 ran known disk source sink c.args.steps.now c.run-ran.new.steps c.run-ran.ensures.keeps));
      ends = c.put_side-status.ensures.ends;
      before = c.run-ran.ensures.sink_count;
      after = c.put_side-status.ensures.sink_count;
      both = λ some.
          subst (λ n. BothRose n (d.faults left) (d.is_spent left) g.O.Opened.right_faults (e.faults right) (e.is_spent right)) c.requires.left_faults
          (subst (λ n. BothRose g.J.Opened.left_faults (d.faults left) (d.is_spent left) n (e.faults right) (e.is_spent right)) c.requires.right_faults (told.cause some));
      dropped_right = λ is. subst (λ y. RoseFrom g.O.Opened.right_faults (e.faults y) (e.is_spent y)) right_is (subst (λ n. RoseFrom n (e.faults disk.right) (e.is_spent disk.right)) c.requires.right_faults (c.alone-alone.ensures.right_cause is));
      dropped_left = λ is. subst (λ x. RoseFrom g.O.Opened.left_faults (d.faults x) (d.is_spent x)) left_is (subst (λ n. RoseFrom n (d.faults disk.left) (d.is_spent disk.left)) c.requires.left_faults (c.alone-alone.ensures.left_cause is));
      right_out = right_stayed first.alone first.right right (subst (λ o. ForSome o (λ x. right ≡ x)) c.requires.right_out told.right_out);
      left_out = left_stayed first.alone first.left left (subst (λ o. ForSome o (λ x. left ≡ x)) c.requires.left_out told.left_out);
    }

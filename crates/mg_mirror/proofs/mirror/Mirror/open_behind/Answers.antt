use Rattle.{mg_mirror.{proofs.Found.{found_left, found_right}, specs.{Copy.LeavesCopy, MirrorLemmas.{and_left, and_right}}}, std.proofs.Common.◌≡◌}
use Rattle.std.proofs.Common.{IsTrue, min, rules, subst, ⊎_elim}
use Rattle.mg_mirror.proofs.mirror.Mirror.open_behind.Goals as goal

pub returns-in-Err : goal.returns-in-Err
returns-in-Err g c =
    let d = g.D.Disk in
    let e = g.E.Disk in
    let told = c.in-Err.ensures in
    let n_is : c.min-blocks.result ≡ min (d.block_count c.args.left) (e.block_count c.args.right) = search rules in
    record {
      opens = record {
        left_reads = search rules;
        right_reads = search rules;
        left_found = λ is. tt;
        right_found = λ is. tt;
        no_faults = search rules;
        blocks = search rules;
        tells = search rules;
        left_serves = search rules;
        right_serves = search rules;
        left_kept = search rules;
        right_kept = search rules;
        left_back = λ is. (told.left is).calls.steps.reads;
        right_back = λ is. (told.right is).calls.steps.reads;
        right_copy = search rules;
        left_copy = search rules;
        right_torn = λ is. subst (λ n. LeavesCopy e n (d.seen c.args.left) c.args.right c.copy_side.new.right) n_is (told.left is).leaves;
        left_torn = λ is. subst (λ n. LeavesCopy d n (e.seen c.args.right) c.args.left c.copy_side.new.left) n_is (told.right is).leaves;
        left_cause = λ is. (told.left is).calls.cause;
        right_cause = λ is. (told.right is).calls.cause;
      };
    }

pub returns : goal.returns
returns g c =
    let d = g.D.Disk in
    let e = g.E.Disk in
    let told = c.copy_side.ensures in
    let n_is : c.min-blocks.result ≡ min (d.block_count c.args.left) (e.block_count c.args.right) = search rules in
    record {
      opens = record {
        left_reads = λ is. let steps = (told.left is).calls.steps in search rules;
        right_reads = λ is. let steps = (told.right is).calls.steps in search rules;
        left_found = λ is.
            let steps = (told.left is).calls.steps in
            found_left _ _ _ _ _ _ _ (d.seen c.args.left) (e.seen c.copy_side.new.right)
            (λ tells. g.met.D.Disk.seen_may_stay c.args.left (subst IsTrue steps.from_tells (and_left (d.tells_stops c.copy_side.new.left) (e.tells_stops c.copy_side.new.right) tells)))
            c.if-copy_side.alone (search rules) (λ a left. ⊎_elim (λ before. before) (λ none. absurd none) (steps.reads.stops.now a left)) (search rules) (search rules);
        right_found = λ is.
            let steps = (told.right is).calls.steps in
            found_right _ _ _ _ _ _ _ (e.seen c.args.right) (d.seen c.copy_side.new.left)
            (λ tells. g.met.E.Disk.seen_may_stay c.args.right (subst IsTrue steps.from_tells (and_right (d.tells_stops c.copy_side.new.left) (e.tells_stops c.copy_side.new.right) tells)))
            c.if-copy_side.alone (search rules) (λ a left. ⊎_elim (λ before. before) (λ none. absurd none) (steps.reads.stops.now a left)) (search rules) (search rules);
        no_faults = search rules;
        blocks = n_is;
        tells = search rules;
        left_serves = search rules;
        right_serves = search rules;
        left_kept = λ is. (told.left is).calls.steps.reads;
        right_kept = λ is. (told.right is).calls.steps.reads;
        left_back = search rules;
        right_back = search rules;
        right_copy = λ is. subst (λ n. LeavesCopy e n (d.seen c.args.left) c.args.right c.copy_side.new.right) n_is (told.left is).leaves;
        left_copy = λ is. subst (λ n. LeavesCopy d n (e.seen c.args.right) c.args.left c.copy_side.new.left) n_is (told.right is).leaves;
        right_torn = search rules;
        left_torn = search rules;
        left_cause = search rules;
        right_cause = search rules;
      };
    }

use Rattle.mg_disk.proofs.{BlockByBlock.ArePutSoFar, NumberedRuns.{Passed, all_passed, cut_at, failed_first, fails_first, one_more_write}}
use Rattle.mg_disk.{proofs.{NumberedRuns.{passed_more, told_by}, RunSteps.{all_put, put_failed, put_more, same_item}}, specs.Blocks.told_count}
use Rattle.{mg_disk.specs.Memory.{counts_of, more_writes, one_write}, std.proofs.Common.{◌≡◌, arith, length, refl, rules, subst}}
use Rattle.mg_disk.proofs.memory.MemDiskDisk.write_blocks.Goals as goal

pub returns-in-Err-clause-meets : goal.returns-in-Err-clause-meets
returns-in-Err-clause-meets c =
    let loop = c.loop-k in
    put_failed told_by c.args.first loop.k c.args.self.now loop.self c.write.new.self _ c.args.from.now _ refl loop.invariant.so_far _ _ (search rules) c.in-Err.ensures.meets

pub returns-in-Err-clause-numbered : goal.returns-in-Err-clause-numbered
returns-in-Err-clause-numbered c =
    let loop = c.loop-k in
    let made = counts_of c.args.self.now in
    fails_first (more_writes made) c.args.self.now loop.self loop.k (omega arith) loop.invariant.passed c.write.new.self _ _ _ (one_write (counts_of loop.self)) (search rules)
    (one_more_write made (counts_of loop.self) loop.k loop.invariant.passed.recorded) c.in-Err.ensures.numbered

pub returns-in-Err-clause-cut : goal.returns-in-Err-clause-cut
returns-in-Err-clause-cut c =
    let loop = c.loop-k in
    let made = counts_of c.args.self.now in
    let passed = loop.invariant.passed in
    let call = c.in-Err.ensures in (
      loop.k,
      failed_first (more_writes made) c.args.self.now loop.self loop.k (omega arith) passed c.write.new.self _ _ (one_write (counts_of loop.self)) (search rules)
          (one_more_write made (counts_of loop.self) loop.k passed.recorded) call.numbered,
      cut_at c.args.self.now loop.self c.write.new.self c.args.first loop.k c.args.from.now loop.invariant.so_far passed (one_write (counts_of loop.self)) _
          (let long = loop.self.content.ok.0 in let same = loop.invariant.so_far.blocks in let room = c.requires.in_range in let more = c.loop-k-test.true in omega arith) call.numbered call.gates,
    )

pub loop-k-preserved : goal.loop-k-preserved
loop-k-preserved c =
    let loop = c.loop-k in
    let made = counts_of c.args.self.now in
    record {
      so_far = put_more told_by c.args.first loop.k c.args.self.now loop.self c.write.new.self _ c.args.from.now _ refl loop.invariant.so_far _ (same_item c.args.from.now loop.k _ (search rules))
          (λ image is. let long = told_count loop.self.content image is in let same = loop.invariant.so_far.blocks in let room = c.requires.in_range in let more = c.loop-k-test.true in omega arith) c.in-Ok.ensures.meets;
      passed = passed_more (more_writes made) c.args.self.now loop.self loop.k (omega arith) loop.invariant.passed c.write.new.self _ (one_write (counts_of loop.self))
          (one_more_write made (counts_of loop.self) loop.k loop.invariant.passed.recorded) c.in-Ok.ensures.numbered;
    }

pub returns-clause-meets : goal.returns-clause-meets
returns-clause-meets c =
    let loop = c.loop-k in
    let end : loop.k ≡ length c.args.from.now = search rules in
    all_put told_by c.args.first c.args.from.now c.args.self.now loop.self _ (subst (λ n. ArePutSoFar told_by c.args.first c.args.from.now n c.args.self.now loop.self) end loop.invariant.so_far)

pub returns-clause-numbered : goal.returns-clause-numbered
returns-clause-numbered c =
    let loop = c.loop-k in
    let end : loop.k ≡ length c.args.from.now = search rules in
    all_passed (more_writes (counts_of c.args.self.now)) c.args.self.now loop.self _ (length c.args.from.now) (subst (λ n. Passed (more_writes (counts_of c.args.self.now)) n c.args.self.now loop.self) end loop.invariant.passed)

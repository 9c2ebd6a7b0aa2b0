use Rattle.mg_disk.proofs.{NumberedRuns.{Passed, all_passed, fails_first, one_more_read, passed_more, told_by}, RunSteps.{read_failed, read_more}}
use Rattle.{mg_disk.specs.Memory.{counts_of, more_reads, one_read}, std.proofs.Common.{◌≡◌, arith, length, refl, rules, subst}}
use Rattle.mg_disk.proofs.memory.MemDiskDisk.read_blocks.Goals as goal

pub returns-in-Err-clause-meets : goal.returns-in-Err-clause-meets
returns-in-Err-clause-meets c =
    let loop = c.loop-k in
    read_failed told_by c.args.first loop.k c.args.self.now loop.self c.read.new.self _ _ loop.out c.read.new.out loop.invariant.so_far _ _ c.in-Err.ensures.meets

pub returns-in-Err-clause-numbered : goal.returns-in-Err-clause-numbered
returns-in-Err-clause-numbered c =
    let loop = c.loop-k in
    let made = counts_of c.args.self.now in
    fails_first (more_reads made) c.args.self.now loop.self loop.k (omega arith) loop.invariant.passed c.read.new.self _ _ _ (one_read (counts_of loop.self)) (search rules)
    (one_more_read made (counts_of loop.self) loop.k loop.invariant.passed.recorded) c.in-Err.ensures.numbered

pub loop-k-preserved : goal.loop-k-preserved
loop-k-preserved c =
    let loop = c.loop-k in
    let made = counts_of c.args.self.now in
    record {
      so_far = read_more told_by c.args.first loop.k c.args.self.now loop.self c.read.new.self _ _ loop.out c.read.new.out loop.invariant.so_far _ refl (search rules) c.in-Ok.ensures.meets;
      passed = passed_more (more_reads made) c.args.self.now loop.self loop.k (omega arith) loop.invariant.passed c.read.new.self _ (one_read (counts_of loop.self))
          (one_more_read made (counts_of loop.self) loop.k loop.invariant.passed.recorded) c.in-Ok.ensures.numbered;
    }

pub returns-clause-numbered : goal.returns-clause-numbered
returns-clause-numbered c =
    let loop = c.loop-k in
    let end : loop.k ≡ length c.args.out.now = search rules in
    all_passed (more_reads (counts_of c.args.self.now)) c.args.self.now loop.self _ (length c.args.out.now) (subst (λ n. Passed (more_reads (counts_of c.args.self.now)) n c.args.self.now loop.self) end loop.invariant.passed)

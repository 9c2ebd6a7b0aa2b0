use Rattle.mg_disk.proofs.FewerPut.{all_pass, as_many, few_pass, others_stay, part_read}
use Rattle.mg_disk.proofs.fuse.FuseDisk.read_blocks.Goals.{else-passing-out+else-passing-gt0-2, else-passing-out+then-passing-gt0-2}
use Rattle.mg_disk.proofs.fuse.FuseDisk.read_blocks.Goals.{then-passing-out+else-passing-gt0, then-passing-out+then-passing-gt0}
use Rattle.{mg_disk.specs.{Calls.IsReadRun, declared.fuse.Fuse.Fuse}, std.proofs.Common.{◌≡◌, ◌∙◌, ◌≤◌, arith, drop, length, rules, subst, sym, take}}
use Rattle.mg_disk.proofs.fuse.FuseDisk.read_blocks.Goals as goal

pub returns-clause-passes : goal.returns-clause-passes
returns-clause-passes g c =
    let was = c.args.self.now.inner in
    let left = c.args.self.now.calls_left in
    let calls = length c.args.out.now in
    let passing = c.spend_run-passing.result in
    let is = c.spend_run-passing.ensures.passing in
    record {
      whole = λ some enough. let all = all_pass left calls passing is enough in elim c.if-passing-out.branch [
        | then-passing-out+then-passing-gt0 w ↦ absurd (let few = w.if-passing-out.true in omega arith)
        | then-passing-out+else-passing-gt0 w ↦ absurd (let few = w.if-passing-out.true in omega arith)
        | else-passing-out+then-passing-gt0-2 w ↦
            let run = w.read_blocks-then-passing-gt0-2 in
            let result : run.result ≡ c.counted.result = sym (c.counted.ensures.same ∙ w.outcome-is) in
            subst (λ r. IsReadRun g.D.Disk was c.if-passing-out.self.inner c.args.first calls c.if-passing-out.out r) result
            (subst (λ out. IsReadRun g.D.Disk was c.if-passing-out.self.inner c.args.first calls out run.result) (sym w.out-is)
            (subst (λ (fuse : Fuse g.row.D.Denot). IsReadRun g.D.Disk was fuse.inner c.args.first calls run.new.out run.result) (sym w.self-is) (search rules)))
        | else-passing-out+else-passing-gt0-2 w ↦ absurd (let none = w.if-passing-gt0-2.false in omega arith)
      ];
      part = λ some few. let all = few_pass left calls passing is few in elim c.if-passing-out.branch [
        | then-passing-out+then-passing-gt0 w ↦
            let run = w.read_blocks in
            let before = c.args.out.now in
            let out = c.if-passing-out.out in
            let short : passing ≤ calls = let low = w.if-passing-out.true in omega arith in
            let room = as_many passing before run.new.out out short run.ensures.same_length w.out-is in (
              run.result,
              subst (λ n. IsReadRun g.D.Disk was c.if-passing-out.self.inner c.args.first n (take n out) run.result) all
                  (subst (λ part. IsReadRun g.D.Disk was c.if-passing-out.self.inner c.args.first passing part run.result) (sym (part_read passing before run.new.out out short run.ensures.same_length w.out-is))
                  (subst (λ (fuse : Fuse g.row.D.Denot). IsReadRun g.D.Disk was fuse.inner c.args.first passing run.new.out run.result) (sym w.self-is) (search rules))),
            )
        | then-passing-out+else-passing-gt0 w ↦ absurd (let none = w.if-passing-gt0.false in omega arith)
        | else-passing-out+then-passing-gt0-2 w ↦ absurd (let enough = w.if-passing-out.false in omega arith)
        | else-passing-out+else-passing-gt0-2 w ↦ absurd (let enough = w.if-passing-out.false in omega arith)
      ];
      rest = λ few. let all = few_pass left calls passing is few in elim c.if-passing-out.branch [
        | then-passing-out+then-passing-gt0 w ↦
            let short : passing ≤ calls = let low = w.if-passing-out.true in omega arith in
            subst (λ n. drop n c.if-passing-out.out ≡ drop n c.args.out.now) all
            (others_stay passing c.args.out.now w.read_blocks.new.out c.if-passing-out.out short w.read_blocks.ensures.same_length w.out-is)
        | then-passing-out+else-passing-gt0 w ↦ search rules
        | else-passing-out+then-passing-gt0-2 w ↦ absurd (let enough = w.if-passing-out.false in omega arith)
        | else-passing-out+else-passing-gt0-2 w ↦ absurd (let enough = w.if-passing-out.false in omega arith)
      ];
    }

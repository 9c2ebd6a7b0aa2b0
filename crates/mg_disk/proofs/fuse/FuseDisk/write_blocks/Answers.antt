use Rattle.mg_disk.proofs.FewerPut.{all_pass, few_pass, fewer_seen, fewer_torn}
use Rattle.mg_disk.proofs.fuse.FuseDisk.write_blocks.Goals.{else-passing-from+else-passing-gt0-2, else-passing-from+then-passing-gt0-2}
use Rattle.mg_disk.proofs.fuse.FuseDisk.write_blocks.Goals.{then-passing-from+else-passing-gt0, then-passing-from+then-passing-gt0}
use Rattle.{mg_disk.specs.{Calls.IsWriteRun, Disk.{InRange, SeenBut, TornAt}, Stops.TimeGoes, declared.fuse.Fuse.Fuse}, std.proofs.Common.{◌≡◌, ◌∙◌}}
use Rattle.std.proofs.Common.{arith, length, rules, subst, sym, take}
use Rattle.mg_disk.proofs.fuse.FuseDisk.write_blocks.Goals as goal

pub returns-clause-meets : goal.returns-clause-meets
returns-clause-meets g c =
    let was = c.args.self.now.inner in
    let all = InRange c.args.first (length c.args.from.now) in
    let passing = c.spend_run-passing.result in
    record {
      written = search rules;
      unknown = elim c.if-passing-from.branch [
        | then-passing-from+then-passing-gt0 w ↦
            let inner : w.write_blocks.new.self ≡ c.if-passing-from.self.inner = search rules in
            subst (λ disk. SeenBut all (g.D.Disk.seen was) (g.D.Disk.seen disk)) inner (fewer_seen c.args.first passing c.args.from.now (g.D.Disk.seen was) (g.D.Disk.seen w.write_blocks.new.self) w.write_blocks.ensures.unknown)
        | then-passing-from+else-passing-gt0 w ↦ search rules
        | else-passing-from+then-passing-gt0-2 w ↦ search rules
        | else-passing-from+else-passing-gt0-2 w ↦ search rules
      ];
      rules = record {
        stops = elim c.if-passing-from.branch [
          | then-passing-from+then-passing-gt0 w ↦
              let inner : w.write_blocks.new.self ≡ c.if-passing-from.self.inner = search rules in
              subst (λ disk. TimeGoes g.D.Disk was disk (TornAt all ((g.D.Disk.time was).left_since (g.D.Disk.time was).moment))) inner
              (fewer_torn c.args.first passing c.args.from.now g.D.Disk was w.write_blocks.new.self ((g.D.Disk.time was).left_since (g.D.Disk.time was).moment) w.write_blocks.ensures.stops)
          | then-passing-from+else-passing-gt0 w ↦ search rules
          | else-passing-from+then-passing-gt0-2 w ↦ search rules
          | else-passing-from+else-passing-gt0-2 w ↦ search rules
        ];
        blocks = search rules;
        tells = search rules;
        count = search rules;
        cause = search rules;
      };
    }

pub returns-clause-passes : goal.returns-clause-passes
returns-clause-passes g c =
    let was = c.args.self.now.inner in
    let left = c.args.self.now.calls_left in
    let from = c.args.from.now in
    let calls = length from in
    let passing = c.spend_run-passing.result in
    let is = c.spend_run-passing.ensures.passing in
    record {
      whole = λ some enough. let all = all_pass left calls passing is enough in elim c.if-passing-from.branch [
        | then-passing-from+then-passing-gt0 w ↦ absurd (let few = w.if-passing-from.true in omega arith)
        | then-passing-from+else-passing-gt0 w ↦ absurd (let few = w.if-passing-from.true in omega arith)
        | else-passing-from+then-passing-gt0-2 w ↦
            let run = w.write_blocks-then-passing-gt0-2 in
            let result : run.result ≡ c.counted.result = sym (c.counted.ensures.same ∙ w.outcome-is) in
            subst (λ r. IsWriteRun g.D.Disk was c.if-passing-from.self.inner c.args.first from r) result
            (subst (λ (fuse : Fuse g.row.D.Denot). IsWriteRun g.D.Disk was fuse.inner c.args.first from run.result) (sym w.self-is) (search rules))
        | else-passing-from+else-passing-gt0-2 w ↦ absurd (let none = w.if-passing-gt0-2.false in omega arith)
      ];
      part = λ some few. let all = few_pass left calls passing is few in elim c.if-passing-from.branch [
        | then-passing-from+then-passing-gt0 w ↦
            let run = w.write_blocks in (
              run.result,
              subst (λ n. IsWriteRun g.D.Disk was c.if-passing-from.self.inner c.args.first (take n from) run.result) all
                  (subst (λ (fuse : Fuse g.row.D.Denot). IsWriteRun g.D.Disk was fuse.inner c.args.first (take passing from) run.result) (sym w.self-is) (search rules)),
            )
        | then-passing-from+else-passing-gt0 w ↦ absurd (let none = w.if-passing-gt0.false in omega arith)
        | else-passing-from+then-passing-gt0-2 w ↦ absurd (let enough = w.if-passing-from.false in omega arith)
        | else-passing-from+else-passing-gt0-2 w ↦ absurd (let enough = w.if-passing-from.false in omega arith)
      ];
    }

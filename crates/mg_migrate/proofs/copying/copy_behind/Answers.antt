use Rattle.{mg_disk.specs.{Disk.{Image, InRange, TornAt}, Runs.torn_more, Stops.MightHaveLeft}, mg_migrate.proofs.CopySteps.{copied_more, synced}}
use Rattle.mg_migrate.proofs.copying.copy_behind.Goals.{else-loop-first-test, then-loop-first-test+in_ok-copy_blocks+else-total-first-gt32}
use Rattle.{mg_model.specs.Words.and_then, std.proofs.Common.{◌+◌, ◌<◌, ◌≤◌, ◌∙◌, ℕ, Option, ap, arith, length, rules, take}}
use Rattle.std.proofs.lemmas.Grind.{common_steps}
use Rattle.mg_migrate.proofs.copying.copy_behind.Goals as goal

pub returns-in-Ok-clause-any_moment : goal.returns-in-Ok-clause-any_moment
returns-in-Ok-clause-any_moment g c =
    let first = c.args.new.now in
    let behind = TornAt (λ k. 1 ≤ k) (MightHaveLeft g.D.Disk first) in
    let torn = c.loop-first.invariant.torn in
    elim c.loop-first-test.branch [
      | else-loop-first-test w ↦ synced g.D.Disk behind first c.loop-first.new c.loop-first-test.new c.sync.new.self w.new-is torn c.sync.ensures.stops
      | then-loop-first-test+in_ok-copy_blocks+else-total-first-gt32 w ↦
          synced g.D.Disk behind first w.copy_blocks.new.new c.loop-first-test.new c.sync.new.self w.new-is
          (torn_more g.D.Disk first c.loop-first.new w.copy_blocks.new.new (InRange c.loop-first.first (length (take w.min-count.result c.loop-first.blocks))) (λ k. 1 ≤ k) torn w.copy_blocks.ensures.stops
          (λ k at. let low = c.loop-first.invariant.behind in let from = at.from in omega arith))
          c.sync.ensures.stops
    ]

pub returns-in-Err-clause-any_moment : goal.returns-in-Err-clause-any_moment
returns-in-Err-clause-any_moment g c =
    let first = c.args.new.now in
    let behind = TornAt (λ k. 1 ≤ k) (MightHaveLeft g.D.Disk first) in
    let torn = c.loop-first.invariant.torn in
    elim c.loop-first-test.branch [
      | else-loop-first-test w ↦ synced g.D.Disk behind first c.loop-first.new c.loop-first-test.new c.sync.new.self w.new-is torn c.sync.ensures.stops
      | then-loop-first-test+in_ok-copy_blocks+else-total-first-gt32 w ↦
          synced g.D.Disk behind first w.copy_blocks.new.new c.loop-first-test.new c.sync.new.self w.new-is
          (torn_more g.D.Disk first c.loop-first.new w.copy_blocks.new.new (InRange c.loop-first.first (length (take w.min-count.result c.loop-first.blocks))) (λ k. 1 ≤ k) torn w.copy_blocks.ensures.stops
          (λ k at. let low = c.loop-first.invariant.behind in let from = at.from in omega arith))
          c.sync.ensures.stops
    ]

pub returns-in_err-copy_blocks-clause-any_moment : goal.returns-in_err-copy_blocks-clause-any_moment
returns-in_err-copy_blocks-clause-any_moment g c =
    torn_more g.D.Disk c.args.new.now c.loop-first.new c.copy_blocks.new.new (InRange c.loop-first.first (length (take c.min-count.result c.loop-first.blocks))) (λ k. 1 ≤ k) c.loop-first.invariant.torn c.copy_blocks.ensures.stops
    (λ k at. let low = c.loop-first.invariant.behind in let from = at.from in omega arith)

pub loop-first-preserved : goal.loop-first-preserved
loop-first-preserved g c =
    let low = c.loop-first.invariant.behind in
    let within : (i : ℕ) → i < c.args.total → i < c.loop-first.first + 32 → i < c.loop-first.first + length (take c.min-count.result c.loop-first.blocks) = grind (arith, common_steps) in
    record {
      behind = omega arith;
      blocks = c.copy_blocks.ensures.calls.blocks ∙ c.loop-first.invariant.blocks;
      count = grind arith;
      torn =
          torn_more g.D.Disk c.args.new.now c.loop-first.new c.copy_blocks.new.new (InRange c.loop-first.first (length (take c.min-count.result c.loop-first.blocks))) (λ k. 1 ≤ k) c.loop-first.invariant.torn c.copy_blocks.ensures.stops
          (λ k at. let from = at.from in omega (arith, low, from));
      seen = grind arith;
      copied = λ r read.
          copied_more c.args.total c.loop-first.first (c.loop-first.first + 32) (length (take c.min-count.result c.loop-first.blocks)) r (g.D.Disk.seen c.loop-first.new) (g.D.Disk.seen c.copy_blocks.new.new) within
          c.copy_blocks.ensures.seen (c.loop-first.invariant.copied r read)
          (c.in_ok-copy_blocks.ensures.copied r (ap (λ (o : Option Image). and_then o (g.C.Contents.of c.args.view.now)) c.loop-first.invariant.reads.writes.same ∙ read));
      reads = search rules;
    }

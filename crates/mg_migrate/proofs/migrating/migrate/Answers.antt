use Rattle.{mg_disk.specs.Runs.from_wider, mg_migrate.proofs.LiftedCopy.{contents-are, copy-may, left-lifts, reads-migrated, tells-done}}
use Rattle.mg_migrate.{proofs.LiftedCopy.{tells-enough, tells-small, untouched_may}, specs.{Copied.MayCopy, Layout1.total1_blocks, Lifted.lifted}}
use Rattle.{mg_migrate.specs.{LiftedView.LiftedView, Migrated.{IsMigrated, MayMigrate}, Version1.volume1}, mg_model.specs.Layout.total_blocks}
use Rattle.std.proofs.Common.{rules, sym, ap, subst, ◌∙◌, ◌≡◌, arith, inr}
use Rattle.mg_migrate.proofs.migrating.migrate.Goals as goal

pub returns-then-have-need-clause-told : goal.returns-then-have-need-clause-told
returns-then-have-need-clause-told g c image told =
    tells-small c.in_ok-lifting.lifting c.in_ok-lifting.rows image (c.in_ok-lifting.ensures.told image told) c.of-need.result.total (g.D.Disk.block_count c.args.new.now) c.blocks-have.result
    (c.of-need.ensures.total ∙ ap total_blocks c.frames.ensures.value) c.blocks-have.ensures.count (search rules)

pub returns-in-Ok-clause-told : goal.returns-in-Ok-clause-told
returns-in-Ok-clause-told g c image told =
    tells-done c.in_ok-lifting.lifting c.in_ok-lifting.rows image (c.in_ok-lifting.ensures.told image told) c.summary_of-summary.result (g.D.Disk.block_count c.args.new.now) c.summary_of-summary.ensures.told (search rules)

pub returns-clause-told : goal.returns-clause-told
returns-clause-told g c image told =
    tells-enough c.in_ok-lifting.lifting c.in_ok-lifting.rows image (c.in_ok-lifting.ensures.told image told) (g.D.Disk.block_count c.args.new.now) (search rules)

pub returns-in_err-lifting-clause-any_moment : goal.returns-in_err-lifting-clause-any_moment
returns-in_err-lifting-clause-any_moment g c before read = untouched_may g.D.Disk (volume1 before) c.args.new.now (g.met.D.Disk.now_has_been c.args.new.now)

pub returns-in_err-lifting-clause-new_calls : goal.returns-in_err-lifting-clause-new_calls
returns-in_err-lifting-clause-new_calls g c = search rules

pub returns-then-have-need-clause-any_moment : goal.returns-then-have-need-clause-any_moment
returns-then-have-need-clause-any_moment g c before read = untouched_may g.D.Disk (volume1 before) c.args.new.now (g.met.D.Disk.now_has_been c.args.new.now)

pub copy-requires-clause-can : goal.copy-requires-clause-can
copy-requires-clause-can g c =
    let reads = c.in_ok-lifting.ensures.reads in
    record {
      room = let room = c.in_ok-lifting.ensures.within_disk in let same = reads.calls.blocks in omega arith;
      fits = λ image told. (c.in_ok-lifting.ensures.told image (sym reads.writes.same ∙ told)).fits;
    }

pub returns-in-Ok-clause-any_moment : goal.returns-in-Ok-clause-any_moment
returns-in-Ok-clause-any_moment g c before read =
    let seen = c.in_ok-lifting.lifting in
    let old = c.in_ok-lifting.ensures.told before read in
    from_wider g.D.Disk c.args.new.now c.copy.new.new (λ image. MayCopy (total_blocks seen.settings.frames) image (lifted seen.settings old.replayed)) (λ image. MayMigrate image (volume1 before))
    (c.copy.ensures.any_moment (lifted seen.settings old.replayed)
    (contents-are seen c.in_ok-lifting.rows before old g.E.Disk c.read_old.new.old (subst (λ (v : LiftedView). v.placed.total ≡ total1_blocks v.settings.frames) c.lifting.view_is c.lifting.invariant) (c.in_ok-lifting.ensures.reads.writes.same ∙ read)))
    (copy-may seen c.in_ok-lifting.rows before old)

pub returns-in-Err-From-clause-any_moment : goal.returns-in-Err-From-clause-any_moment
returns-in-Err-From-clause-any_moment g c before read =
    let seen = c.in_ok-lifting.lifting in
    let old = c.in_ok-lifting.ensures.told before read in
    from_wider g.D.Disk c.args.new.now c.copy.new.new (λ image. MayCopy (total_blocks seen.settings.frames) image (lifted seen.settings old.replayed)) (λ image. MayMigrate image (volume1 before))
    (c.copy.ensures.any_moment (lifted seen.settings old.replayed)
    (contents-are seen c.in_ok-lifting.rows before old g.E.Disk c.read_old.new.old (subst (λ (v : LiftedView). v.placed.total ≡ total1_blocks v.settings.frames) c.lifting.view_is c.lifting.invariant) (c.in_ok-lifting.ensures.reads.writes.same ∙ read)))
    (copy-may seen c.in_ok-lifting.rows before old)

pub returns-clause-any_moment : goal.returns-clause-any_moment
returns-clause-any_moment g c before read =
    let seen = c.in_ok-lifting.lifting in
    let old = c.in_ok-lifting.ensures.told before read in
    from_wider g.D.Disk c.args.new.now c.copy.new.new (λ image. MayCopy (total_blocks seen.settings.frames) image (lifted seen.settings old.replayed)) (λ image. MayMigrate image (volume1 before))
    (c.copy.ensures.any_moment (lifted seen.settings old.replayed)
    (contents-are seen c.in_ok-lifting.rows before old g.E.Disk c.read_old.new.old (subst (λ (v : LiftedView). v.placed.total ≡ total1_blocks v.settings.frames) c.lifting.view_is c.lifting.invariant) (c.in_ok-lifting.ensures.reads.writes.same ∙ read)))
    (copy-may seen c.in_ok-lifting.rows before old)

pub returns-in-Ok-clause-made : goal.returns-in-Ok-clause-made
returns-in-Ok-clause-made g c before read =
    let seen = c.in_ok-lifting.lifting in
    let old = c.in_ok-lifting.ensures.told before read in
    let copied = c.in-Ok.ensures.copied in
    let reads =
    reads-migrated seen c.in_ok-lifting.rows before old (g.D.Disk.seen c.args.new.now) (g.D.Disk.seen c.copy.new.new)
    (copied.reads (lifted seen.settings old.replayed)
    (contents-are seen c.in_ok-lifting.rows before old g.E.Disk c.read_old.new.old (subst (λ (v : LiftedView). v.placed.total ≡ total1_blocks v.settings.frames) c.lifting.view_is c.lifting.invariant) (c.in_ok-lifting.ensures.reads.writes.same ∙ read))) in
    record {
      reads = reads;
      left = λ i left. left-lifts (IsMigrated before) (g.D.Disk.seen c.args.new.now) (g.D.Disk.seen c.copy.new.new) i reads (copied.settled i left);
    }

pub returns-in-Ok-clause-stands_back : goal.returns-in-Ok-clause-stands_back
returns-in-Ok-clause-stands_back g c before read unfit =
    absurd (unfit (tells-enough c.in_ok-lifting.lifting c.in_ok-lifting.rows before (c.in_ok-lifting.ensures.told before read) (g.D.Disk.block_count c.args.new.now) (search rules)))

pub returns-in-Err-From-clause-stands_back : goal.returns-in-Err-From-clause-stands_back
returns-in-Err-From-clause-stands_back g c before read unfit =
    absurd (unfit (tells-enough c.in_ok-lifting.lifting c.in_ok-lifting.rows before (c.in_ok-lifting.ensures.told before read) (g.D.Disk.block_count c.args.new.now) (search rules)))

pub returns-in-Err-From-clause-closed : goal.returns-in-Err-From-clause-closed
returns-in-Err-From-clause-closed g c failed =
    inr (c.in-Err-From.ensures.closed (search rules), λ before read. tells-enough c.in_ok-lifting.lifting c.in_ok-lifting.rows before (c.in_ok-lifting.ensures.told before read) (g.D.Disk.block_count c.args.new.now) (search rules))

pub returns-clause-stands_back : goal.returns-clause-stands_back
returns-clause-stands_back g c before read unfit =
    absurd (unfit (tells-enough c.in_ok-lifting.lifting c.in_ok-lifting.rows before (c.in_ok-lifting.ensures.told before read) (g.D.Disk.block_count c.args.new.now) (search rules)))

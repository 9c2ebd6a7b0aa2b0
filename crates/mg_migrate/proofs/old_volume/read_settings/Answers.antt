use Rattle.mg_migrate.{proofs.{OldReads.{behind, opened-by}, Volume1Reads.{volume1-closed, volume1-short}}, specs.Spelling1.{BadSuper1, NewSuper1}}
use Rattle.{mg_migrate.specs.{Spelling1.{NotSuper1, OldSuper1, super1_read}, Super1.IsSuper1}, mg_model.specs.Layout.{gate_open, super_block}}
use Rattle.{mg_model.specs.{Replay.block_of, Volume.gate_byte}, std.proofs.{Common.{subst, ◌∙◌, arith}, lemmas.Bool.eqb-false}}
use Rattle.mg_migrate.proofs.old_volume.read_settings.Goals as goal

pub returns-then-blocks-lt2-clause-none : goal.returns-then-blocks-lt2-clause-none
returns-then-blocks-lt2-clause-none g c image told = volume1-short image (let counted = g.met.E.Disk.seen_count c.args.old.now image told in omega arith)

pub returns-in-Ok-false-clause-none : goal.returns-in-Ok-false-clause-none
returns-in-Ok-false-clause-none g c image told = volume1-closed image (eqb-false (gate_byte image) gate_open (c.in-Ok-false.ensures.opened image told ∙ c.in-Ok-false.field-0-test))

pub returns-in-Is-clause-told : goal.returns-in-Is-clause-told
returns-in-Is-clause-told g c image told =
    let counted = g.met.E.Disk.seen_count c.args.old.now image told in
    record {
      opened = opened-by image (omega arith) (c.in-Ok-true.ensures.opened image told ∙ c.in-Ok-true.field-0-test);
      super = subst (λ s. IsSuper1 s (super1_read (block_of image super_block))) c.in-Is.is (c.in-Ok.ensures.spelled image (c.is_gate_open.ensures.reads.writes.same ∙ told));
    }

pub returns-in-Damaged-clause-none : goal.returns-in-Damaged-clause-none
returns-in-Damaged-clause-none g c image told =
    let counted = g.met.E.Disk.seen_count c.args.old.now image told in
    behind image BadSuper1 (opened-by image (omega arith) (c.in-Ok-true.ensures.opened image told ∙ c.in-Ok-true.field-0-test))
    (subst (λ s. IsSuper1 s (super1_read (block_of image super_block))) c.in-Damaged.is (c.in-Ok.ensures.spelled image (c.is_gate_open.ensures.reads.writes.same ∙ told)))

pub returns-in-New-clause-none : goal.returns-in-New-clause-none
returns-in-New-clause-none g c image told =
    let counted = g.met.E.Disk.seen_count c.args.old.now image told in
    behind image NewSuper1 (opened-by image (omega arith) (c.in-Ok-true.ensures.opened image told ∙ c.in-Ok-true.field-0-test))
    (subst (λ s. IsSuper1 s (super1_read (block_of image super_block))) c.in-New.is (c.in-Ok.ensures.spelled image (c.is_gate_open.ensures.reads.writes.same ∙ told)))

pub returns-in-Old-clause-none : goal.returns-in-Old-clause-none
returns-in-Old-clause-none g c image told =
    let counted = g.met.E.Disk.seen_count c.args.old.now image told in
    behind image OldSuper1 (opened-by image (omega arith) (c.in-Ok-true.ensures.opened image told ∙ c.in-Ok-true.field-0-test))
    (subst (λ s. IsSuper1 s (super1_read (block_of image super_block))) c.in-Old.is (c.in-Ok.ensures.spelled image (c.is_gate_open.ensures.reads.writes.same ∙ told)))

pub returns-in-Not-clause-none : goal.returns-in-Not-clause-none
returns-in-Not-clause-none g c image told =
    let counted = g.met.E.Disk.seen_count c.args.old.now image told in
    behind image NotSuper1 (opened-by image (omega arith) (c.in-Ok-true.ensures.opened image told ∙ c.in-Ok-true.field-0-test))
    (subst (λ s. IsSuper1 s (super1_read (block_of image super_block))) c.in-Not.is (c.in-Ok.ensures.spelled image (c.is_gate_open.ensures.reads.writes.same ∙ told)))

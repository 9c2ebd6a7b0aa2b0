use Rattle.{mg_layout.specs.SuperBlock.IsSuper, mg_model.specs.{Layout.{gate_open, super_block}, Replay.block_of, Spelling.{BadSuper, NotSuper}}}
use Rattle.mg_model.specs.{Spelling.{OldSuper, super_read}, Volume.gate_byte, VolumeLemmas.{volume-closed, volume-short}}
use Rattle.{mg_rules.specs.SettledVolumeLemmas.{opened-by, volume-behind}, std.proofs.{Common.{subst, ◌∙◌, arith}, lemmas.Bool.eqb-false}}
use Rattle.mg_check.proofs.settings.read_settings.Goals as goal

pub returns-then-blocks-lt2-clause-not : goal.returns-then-blocks-lt2-clause-not
returns-then-blocks-lt2-clause-not g c is image told = volume-short image (let counted = g.met.D.Disk.seen_count c.args.disk.now image told in omega arith)

pub returns-in-Ok-false-clause-not : goal.returns-in-Ok-false-clause-not
returns-in-Ok-false-clause-not g c is image told = volume-closed image (eqb-false (gate_byte image) gate_open (c.in-Ok-false.ensures.opened image told ∙ c.in-Ok-false.field-0-test))

pub returns-in-Is-clause-told : goal.returns-in-Is-clause-told
returns-in-Is-clause-told g c image told =
    let counted = g.met.D.Disk.seen_count c.args.disk.now image told in
    record {
      opened = opened-by image (omega arith) (c.in-Ok-true.ensures.opened image told ∙ c.in-Ok-true.field-0-test);
      spelled = subst (λ s. IsSuper s (super_read (block_of image super_block))) c.in-Is.is (c.in-Ok.ensures.spelled image (c.is_gate_open.ensures.reads.writes.same ∙ told));
    }

pub returns-in-Damaged-clause-damaged : goal.returns-in-Damaged-clause-damaged
returns-in-Damaged-clause-damaged g c is image told =
    let counted = g.met.D.Disk.seen_count c.args.disk.now image told in
    volume-behind image BadSuper (opened-by image (omega arith) (c.in-Ok-true.ensures.opened image told ∙ c.in-Ok-true.field-0-test))
    (subst (λ s. IsSuper s (super_read (block_of image super_block))) c.in-Damaged.is (c.in-Ok.ensures.spelled image (c.is_gate_open.ensures.reads.writes.same ∙ told)))

pub returns-in-Old-clause-old : goal.returns-in-Old-clause-old
returns-in-Old-clause-old g c is image told =
    let counted = g.met.D.Disk.seen_count c.args.disk.now image told in
    volume-behind image OldSuper (opened-by image (omega arith) (c.in-Ok-true.ensures.opened image told ∙ c.in-Ok-true.field-0-test))
    (subst (λ s. IsSuper s (super_read (block_of image super_block))) c.in-Old.is (c.in-Ok.ensures.spelled image (c.is_gate_open.ensures.reads.writes.same ∙ told)))

pub returns-in-Not-clause-not : goal.returns-in-Not-clause-not
returns-in-Not-clause-not g c is image told =
    let counted = g.met.D.Disk.seen_count c.args.disk.now image told in
    volume-behind image NotSuper (opened-by image (omega arith) (c.in-Ok-true.ensures.opened image told ∙ c.in-Ok-true.field-0-test))
    (subst (λ s. IsSuper s (super_read (block_of image super_block))) c.in-Not.is (c.in-Ok.ensures.spelled image (c.is_gate_open.ensures.reads.writes.same ∙ told)))

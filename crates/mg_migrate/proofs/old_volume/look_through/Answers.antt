use Rattle.{mg_check.specs.ReadRuns.{caused, only_by}, mg_migrate.{proofs.OldReads.{is_seen, not_replayed, too_short}, specs.Layout1.total1_blocks}}
use Rattle.{mg_model.specs.Replay.replay, std.proofs.Common.{Err, ap, subst, sym, IsSome, ◌≡◌, ◌∙◌, arith}}
use Rattle.mg_migrate.proofs.old_volume.look_through.Goals as goal

pub returns-then-blocks-total-clause-none : goal.returns-then-blocks-total-clause-none
returns-then-blocks-total-clause-none g c image told =
    let counted = g.met.E.Disk.seen_count c.args.old.now image told in
    let needed : c.total1-total.result ≡ total1_blocks c.args.params.now.frames = c.total1-total.ensures in
    too_short c.args.params.now image (c.requires.has image told) (omega arith)

pub returns-in-Ok-clause-told : goal.returns-in-Ok-clause-told
returns-in-Ok-clause-told g c image told =
    let counted = g.met.E.Disk.seen_count c.args.old.now image told in
    let needed : c.total1-total.result ≡ total1_blocks c.args.params.now.frames = c.total1-total.ensures in
    is_seen c.args.params.now image (c.requires.has image told) c.in-Ok.view c.new.result c.new.ensures (c.in-Ok.ensures.total ∙ needed) (omega arith)
    (subst (λ n. IsSome (replay image n)) needed (c.in-Ok.ensures.replayed image told))
    (c.in-Ok.ensures.fits image told)

pub returns-in-Err-Damaged-clause-none : goal.returns-in-Err-Damaged-clause-none
returns-in-Err-Damaged-clause-none g c image told =
    let counted = g.met.E.Disk.seen_count c.args.old.now image told in
    let needed : c.total1-total.result ≡ total1_blocks c.args.params.now.frames = c.total1-total.ensures in
    not_replayed c.args.params.now image (c.requires.has image told) (omega arith)
    (sym (ap (replay image) needed) ∙ c.look.ensures.damaged (c.in-Err-Damaged.is ∙ ap Err c.in-Err-Damaged.field-0-is) image told)

pub returns-in-Ok-clause-reads : goal.returns-in-Ok-clause-reads
returns-in-Ok-clause-reads g c = caused g.E.Disk _ _ _ (only_by c.look.ensures.reads) (λ is. let never : ⊥ = cc in absurd never)

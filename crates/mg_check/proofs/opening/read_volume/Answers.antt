use Rattle.{mg_check.specs.ReadRuns.{caused, only_by, only_then}, mg_rules.specs.SettledVolumeLemmas.{volume-damaged, volume-read}}
use Rattle.std.proofs.Common.{Err, ap, ◌∙◌}
use Rattle.mg_check.proofs.opening.read_volume.Goals as goal

pub returns-in-Ok-clause-told : goal.returns-in-Ok-clause-told
returns-in-Ok-clause-told g c image told =
    let later = c.read_settings.ensures.reads.writes.same ∙ told in
    volume-read c.in_ok-p.p image c.in-Ok.read.1 c.in-Ok.ensures.params (c.in_ok-p.ensures.told image told) (c.in-Ok.ensures.told image later)

pub returns-in-Ok-clause-fits : goal.returns-in-Ok-clause-fits
returns-in-Ok-clause-fits g c image told = c.in-Ok.ensures.fits image (c.read_settings.ensures.reads.writes.same ∙ told)

pub returns-in-Err-Damaged-clause-damaged : goal.returns-in-Err-Damaged-clause-damaged
returns-in-Err-Damaged-clause-damaged g c is image told =
    let later = c.read_settings.ensures.reads.writes.same ∙ told in
    volume-damaged c.in_ok-p.p image (c.in_ok-p.ensures.told image told) (c.read_through_view.ensures.damaged (c.in-Err-Damaged.is ∙ ap Err c.in-Err-Damaged.field-0-is) image later)

pub returns-in-Ok-clause-reads : goal.returns-in-Ok-clause-reads
returns-in-Ok-clause-reads g c =
    caused g.D.Disk _ _ _ (only_then g.D.Disk c.args.disk.now c.read_settings.new.disk c.read_through_view.new.disk (only_by c.read_settings.ensures.reads) (only_by c.read_through_view.ensures.reads))
    (λ is. let never : ⊥ = cc in absurd never)

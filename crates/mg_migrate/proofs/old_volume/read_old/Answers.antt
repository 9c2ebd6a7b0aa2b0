use Rattle.{mg_check.specs.ReadRuns.{by_then, only_by, only_then}, mg_migrate.specs.declared.migrating.MigrateFault.MigrateFault}
use Rattle.std.proofs.Common.{◌≡◌, ◌∙◌, sym, Result, Err}
use Rattle.mg_migrate.proofs.old_volume.read_old.Goals as goal

same_error : {T U : Type 0} (x y : MigrateFault) → ◌≡◌ {A = Result T MigrateFault} (Err x) (Err y) → ◌≡◌ {A = Result U MigrateFault} (Err x) (Err y)
same_error x y is = cc

pub look_through-requires : goal.look_through-requires
look_through-requires g c = record { has = λ image told. c.in-Ok.ensures.told image (sym c.read_settings.ensures.reads.writes.same ∙ told) }

pub returns-in-Err-read_lifted-clause-reads : goal.returns-in-Err-read_lifted-clause-reads
returns-in-Err-read_lifted-clause-reads g c =
    by_then g.E.Disk c.args.old.now c.look_through.new.old c.read_lifted.new.old _ _ (λ is. c.in-Err-read_lifted.is ∙ same_error _ _ is)
    (only_then g.E.Disk c.args.old.now c.read_settings.new.old c.look_through.new.old (only_by c.read_settings.ensures.reads) (only_by c.look_through.ensures.reads)) c.read_lifted.ensures.reads

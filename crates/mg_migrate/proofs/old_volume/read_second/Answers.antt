use Rattle.{mg_migrate.specs.{Spelling1.super1_read, Super1.IsSuper1}, std.proofs.Common.subst}
use Rattle.mg_migrate.proofs.old_volume.read_second.Goals as goal

pub returns-in-Ok-clause-spelled : goal.returns-in-Ok-clause-spelled
returns-in-Ok-clause-spelled g c image told = subst (λ block. IsSuper1 c.read_super1.result (super1_read block)) (c.in-Ok.ensures.block image told) c.read_super1.ensures

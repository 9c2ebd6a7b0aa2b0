use Rattle.{mg_layout.specs.SuperBlock.IsSuper, mg_model.specs.Spelling.super_read, std.proofs.Common.subst}
use Rattle.mg_check.proofs.settings.read_second.Goals as goal

pub returns-in-Ok-clause-spelled : goal.returns-in-Ok-clause-spelled
returns-in-Ok-clause-spelled g c image told = subst (λ block. IsSuper c.read_super.result (super_read block)) (c.in-Ok.ensures.block image told) c.read_super.ensures

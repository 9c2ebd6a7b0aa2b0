use Rattle.{mg_kernel.{proofs.Bases.base_told, specs.Meaning.now_of}, std.{proofs.Common.{ap, ◌∙◌}, specs.Prelude.is_some}}
use Rattle.mg_kernel.proofs.kernel.Kernel.is_base.Goals as goal

pub returns : goal.returns
unfolding now_of
returns c image = c.is_some.ensures ∙ ap is_some c.object.ensures ∙ base_told c.args.self.now.volume image c.args.base

use Rattle.{mg_volume.{proofs.ByBase.some_found, specs.Meaning.objects_in}, std.proofs.Common.{◌==◌, ◌∙◌, ap, is_some}}
use Rattle.mg_volume.proofs.volume.Volume.has.Goals as goal

pub returns : goal.returns
returns c = c.is_some.ensures ∙ ap is_some c.object.ensures ∙ some_found (λ row. row.base == c.args.base) (objects_in c.args.self.now)

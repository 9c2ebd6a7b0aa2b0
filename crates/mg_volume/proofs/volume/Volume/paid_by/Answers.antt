use Rattle.{mg_volume.{proofs.BareRows.paid_bare, specs.Meaning.objects_in}, std.proofs.Common.◌∙◌}
use Rattle.mg_volume.proofs.volume.Volume.paid_by.Goals as goal

pub returns : goal.returns
unfolding objects_in
returns c = rw (← c.self.view_is) (c.pages.ensures ∙ c.self.invariant.paid c.args.account ∙ paid_bare c.args.account c.self.inside.objects)

use Rattle.{mg_volume.{proofs.BareRows.paid_bare, specs.Meaning.objects_in}, std.proofs.Common.◌∙◌}
use Rattle.mg_volume.proofs.volume.Volume.bank.Goals as goal

pub returns-clause-pages : goal.returns-clause-pages
unfolding objects_in
returns-clause-pages c n = rw (← c.self.view_is) (c.self.invariant.paid n ∙ paid_bare n c.self.inside.objects)

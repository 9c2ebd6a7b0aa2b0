use Rattle.mg_volume.{proofs.FoundOwn.rows_distinct, specs.contracts.volume.Volume.the_view}
use Rattle.mg_volume.proofs.volume.Volume.bases_differ.Goals as goal

pub returns : goal.returns
returns c = rw (← c.self.view_is) (rows_distinct (the_view c.self.inside) c.self.invariant.kept)

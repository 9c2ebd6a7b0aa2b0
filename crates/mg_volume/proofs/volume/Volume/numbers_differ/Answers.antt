use Rattle.mg_volume.{proofs.ThreadChanged.numbers_apart, specs.contracts.volume.Volume.the_view}
use Rattle.mg_volume.proofs.volume.Volume.numbers_differ.Goals as goal

pub returns : goal.returns
returns c = rw (← c.self.view_is) (numbers_apart (the_view c.self.inside) c.keep_rules.ensures.apart)

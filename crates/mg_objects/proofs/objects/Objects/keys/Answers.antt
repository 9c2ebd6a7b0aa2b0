use Rattle.mg_objects.proofs.Keys.{keys}
use Rattle.mg_objects.proofs.objects.Objects.keys.Goals as goal

pub returns-clause-keys : goal.returns-clause-keys
returns-clause-keys c = keys c.self.inside.rows.items _ c.self.inside.bases c.self.invariant c.args.self.now c.self.view_is c.pairs.result.now c.pairs.ensures.ascending c.pairs.ensures.exact

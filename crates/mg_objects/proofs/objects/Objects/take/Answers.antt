use Rattle.{mg_objects.proofs.Keys.removed, std.proofs.Common.arith}
use Rattle.mg_objects.proofs.objects.Objects.take.Goals as goal

pub index_mut-requires : goal.index_mut-requires
index_mut-requires c =
    omega (arith, c.self.inside.rows.ok.0, (removed c.self.inside.rows.items _ c.self.inside.bases c.self.invariant c.args.self.now c.self.view_is c.args.base _ c.found-place.ensures).0)

pub invariant_of-self : goal.invariant_of-self
invariant_of-self c = rw c.release_range.ensures (removed c.self.inside.rows.items _ c.self.inside.bases c.self.invariant c.args.self.now c.self.view_is c.args.base _ c.found-place.ensures).1.1

pub returns-clause-objects : goal.returns-clause-objects
returns-clause-objects c = (removed c.self.inside.rows.items _ c.self.inside.bases c.self.invariant c.args.self.now c.self.view_is c.args.base _ c.found-place.ensures).1.0

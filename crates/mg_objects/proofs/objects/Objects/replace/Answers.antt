use Rattle.{mg_objects.proofs.Keys.updated, std.proofs.Common.arith}
use Rattle.mg_objects.proofs.objects.Objects.replace.Goals as goal

pub index_mut-requires : goal.index_mut-requires
index_mut-requires c =
    let found = rw c.base.ensures.value at c.found-kept.ensures in
    omega (arith, c.self.inside.rows.ok.0, (updated c.self.inside.rows.items _ c.self.inside.bases c.self.invariant c.args.self.now c.self.view_is c.args.row _ c.base.ensures.kept found c.requires.pages).0)

pub invariant_of-self : goal.invariant_of-self
invariant_of-self c =
    let found = rw c.base.ensures.value at c.found-kept.ensures in
    (updated c.self.inside.rows.items _ c.self.inside.bases c.self.invariant c.args.self.now c.self.view_is c.args.row _ c.base.ensures.kept found c.requires.pages).1.1

pub returns-clause-objects : goal.returns-clause-objects
returns-clause-objects c =
    let found = rw c.base.ensures.value at c.found-kept.ensures in
    (updated c.self.inside.rows.items _ c.self.inside.bases c.self.invariant c.args.self.now c.self.view_is c.args.row _ c.base.ensures.kept found c.requires.pages).1.0

use Rattle.mg_objects.proofs.Keys.{at_end, base_unbound, inserted, lowest_free, some_free}
use Rattle.mg_objects.proofs.objects.Objects.put.Goals as goal

pub add-place-requires-clause-unbound : goal.add-place-requires-clause-unbound
add-place-requires-clause-unbound c =
    rw c.base-base.ensures.value (base_unbound c.self.inside.rows.items _ c.self.inside.bases c.self.invariant c.args.self.now c.self.view_is c.args.row c.base-base.ensures.kept c.requires.apart)

pub add-place-requires-clause-free : goal.add-place-requires-clause-free
add-place-requires-clause-free c = some_free c.self.inside.rows.items _ c.self.inside.bases c.self.invariant c.args.self.now c.self.view_is c.requires.fewer_than_4096

pub put_row-requires-clause-within : goal.put_row-requires-clause-within
put_row-requires-clause-within c = at_end c.self.inside.rows.items _ c.self.inside.bases c.self.invariant c.args.self.now c.self.view_is c.add-place.result c.add-place.ensures.lowest

pub invariant_of-self : goal.invariant_of-self
invariant_of-self c =
    rw (c.add-place.ensures.bound, c.base-base.ensures.value)
    (inserted c.self.inside.rows.items _ c.self.inside.bases c.self.invariant c.args.self.now c.self.view_is c.add-place.result c.add-place.ensures.lowest c.put_row.new.table.items _ c.args.row
    c.base-base.ensures.kept c.requires.apart c.put_row.ensures.put c.put_row.ensures.at_most_4096_rows c.put_row.ensures.has_capacity).1

pub returns-clause-objects : goal.returns-clause-objects
returns-clause-objects c =
    (inserted c.self.inside.rows.items _ c.self.inside.bases c.self.invariant c.args.self.now c.self.view_is c.add-place.result c.add-place.ensures.lowest c.put_row.new.table.items _ c.args.row
    c.base-base.ensures.kept c.requires.apart c.put_row.ensures.put c.put_row.ensures.at_most_4096_rows c.put_row.ensures.has_capacity).0

pub returns-clause-place : goal.returns-clause-place
returns-clause-place c = lowest_free c.self.inside.rows.items _ c.self.inside.bases c.self.invariant c.args.self.now c.self.view_is c.add-place.result c.add-place.ensures.lowest

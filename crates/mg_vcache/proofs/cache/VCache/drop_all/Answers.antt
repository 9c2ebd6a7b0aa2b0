use Rattle.{mg_model.specs.Backed.by_each, mg_vcache.proofs.Dropped.all_dropped, std.proofs.Common.{drop, length}}
use Rattle.mg_vcache.proofs.cache.VCache.drop_all.Goals as goal

pub invariant_of-self : goal.invariant_of-self
invariant_of-self c =
    let seats = c.self.inside.seats.items in
    all_dropped by_each seats c.deref_mut.result.now c.drop_every.new.seats (drop (length c.drop_every.new.seats) seats) c.self.inside.marks.items c.self.inside.seats.len c.self.invariant c.deref_mut.ensures.value c.deref_mut.ensures.len c.drop_every.ensures

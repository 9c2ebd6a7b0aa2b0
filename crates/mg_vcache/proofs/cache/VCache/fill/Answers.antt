use Rattle.{mg_model.specs.declared.seats.Seat.Seat, mg_vcache.proofs.Dropped.filled, std.proofs.Common.{drop, length}}
use Rattle.mg_vcache.proofs.cache.VCache.fill.Goals as goal

pub invariant_of-self : goal.invariant_of-self
invariant_of-self c =
    let seats = c.self.inside.seats.items in
    let marks = c.self.inside.marks.items in
    let seat : Seat = record { thread = c.args.thread; base = c.args.base; right = c.args.right; via = c.args.via } in
    filled seats c.seat_at-place.result seat marks c.deref_mut.result.now c.mark.new.marks (drop (length c.mark.new.marks) marks) c.self.inside.marks.len c.self.invariant c.seat_at-place.ensures.within c.deref_mut.ensures.value c.deref_mut.ensures.len c.mark.ensures.marked c.mark.ensures.stays c.mark.ensures.size

use Rattle.mg_vcache.{proofs.{Dropped.group_more, dropping.drop_in_group.Goals.{then-left, else-left}}, specs.EndedSeats.ended_of}
use Rattle.std.proofs.Common.{rules, arith, ◌*◌, ◌≡◌, false}
use Rattle.mg_vcache.proofs.dropping.drop_in_group.Goals as goal

pub loop-place-preserved : goal.loop-place-preserved
loop-place-preserved c =
    let was : c.if-left.left ≡ false → c.loop-place.left ≡ false = elim c.if-left.branch [ then-left w ↦ λ none. search rules | else-left w ↦ λ none. w.if-left.false ] in
    group_more (16 * c.args.group) c.loop-place.place c.args.row (ended_of c.args.ended) c.args.seats.now c.loop-place.seats c.loop-place.left c.left-kept.result c.if-left.left c.loop-place.invariant (omega arith) (omega arith) c.left-kept.ensures was
    (elim c.if-left.branch [ then-left w ↦ λ none. search rules | else-left w ↦ λ none seat is. w.has_row-left.ensures (search rules) seat is ])

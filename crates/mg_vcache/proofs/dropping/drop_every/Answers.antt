use Rattle.{mg_model.specs.Backed.by_each, mg_vcache.proofs.{Dropped.{none_of_each, none_left}, dropping.drop_every.Goals.then-is_some}}
use Rattle.{mg_vcache.{proofs.dropping.drop_every.Goals.else-is_some, specs.Seats.unless_ended}, std.proofs.Common.{◌≡◌, ◌<◌, None, get_or, subst}}
use Rattle.std.proofs.{Common.{sym, ap, ◌∙◌, slice_set}, lemmas.List.{get_or_default, Edits.map_over_more}}
use Rattle.mg_vcache.proofs.dropping.drop_every.Goals as goal

pub loop-seat-preserved : goal.loop-seat-preserved
loop-seat-preserved c =
    let at = c.loop-seat.seat-index in
    let kept = get_or c.loop-seat.seats at None in
    let left : c.if-is_some.seats ≡ slice_set c.loop-seat.seats at (unless_ended by_each kept) =
    elim c.if-is_some.branch [
      | then-is_some w ↦ w.seats-is ∙ ap (slice_set c.loop-seat.seats at) (none_of_each kept)
      | else-is_some w ↦ w.seats-is ∙ ap (slice_set c.loop-seat.seats at) (none_left kept (sym c.is_some.ensures ∙ w.if-is_some.false))
    ] in
    left
    ∙ map_over_more (unless_ended by_each) c.args.seats.now c.loop-seat.seats at kept c.loop-seat-test.true c.loop-seat.invariant (get_or_default c.loop-seat.seats at None kept (subst (λ n. at < n) (sym c.loop-seat.auto.seats) c.loop-seat-test.true))

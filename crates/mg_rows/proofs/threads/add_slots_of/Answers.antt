use Rattle.{mg_rows.proofs.ThreadReads.{frame-more, length-slots_at}, std.proofs.Common.{◌≡◌, ◌+◌, ◌*◌, length, ap, ◌∙◌, refl, arith}}
use Rattle.mg_rows.proofs.threads.add_slots_of.Goals as goal

pub add-requires : goal.add-requires
add-requires c =
    let long : length c.loop-place.frame.slots ≡ c.loop-place.place = ap (λ frame. length frame.slots) c.loop-place.invariant ∙ length-slots_at c.args.block.now c.args.at c.loop-place.place in
    let few = c.requires.count_at_most_8 in
    omega arith

pub loop-place-preserved : goal.loop-place-preserved
loop-place-preserved c =
    frame-more c.args.block.now c.args.frame.now c.loop-place.frame c.add.new.self c.args.at c.loop-place.place (c.args.at + 16 * c.loop-place.place) c.number_at.result c.number_at-in-loop-place.result
    refl c.number_at.ensures c.number_at-in-loop-place.ensures c.loop-place.invariant c.add.ensures

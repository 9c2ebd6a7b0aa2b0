use Rattle.mg_index.proofs.Released.{in-order}
use Rattle.mg_index.proofs.pairs.part_of.Goals as goal

pub returns : goal.returns
returns c =
    let from = c.count_below-from in
    let to = c.count_to-to in
    record {
      before = from.ensures.below;
      behind_first = from.ensures.above;
      before_last = to.ensures.below;
      behind = to.ensures.above;
      order = in-order c.args.pairs.now c.args.first c.args.count from.result to.result from.ensures.within from.ensures.below to.ensures.above;
      within = to.ensures.within;
    }

use Rattle.mg_rules.{proofs.{Apart.sorted-pairs, ObjectOrder.spans-are}, specs.{LiveTableLemmas.live-places, RowsRead.live_from}}
use Rattle.std.proofs.Common.{◌∙◌}
use Rattle.mg_rules.proofs.soundness.spans.Goals as goal

pub returns : goal.returns
returns c =
    let objects = c.args.objects.now in
    let sorted = c.sort_unstable.new.self.items in
    spans-are (live_from 0 objects) c.in_ok-spans.spans.items sorted c.requires.ranges (c.in_ok-spans.ensures ∙ live-places 0 objects) c.sort_unstable.ensures.permutation (sorted-pairs sorted c.sort_unstable.ensures.sorted)

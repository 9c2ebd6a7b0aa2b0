use Rattle.{mg_show.proofs.Marked.{above-more, bases-rise, below-more}, std.proofs.Common.{◌+◌, ◌-◌, ◌/◌, arith}}
use Rattle.mg_show.proofs.marks.count_below.Goals as goal

pub loop-low-preserved-then-base : goal.loop-low-preserved-then-base
loop-low-preserved-then-base c =
    let m = c.loop-low.low + (c.loop-low.high - c.loop-low.low) / 2 in
    let w = c.loop-low.invariant.within in
    let t = c.loop-low-test.true in
    record {
      within = c.loop-low.invariant.within;
      order = omega arith;
      before = below-more c.args.objects.now c.args.base m c.nth_ref.result.now (bases-rise c.args.objects.now c.len-high.ensures.rows c.len-high.ensures.apart) (omega arith) c.nth_ref.ensures
          (let v = c.base.ensures.value in let l = c.if-base.true in omega arith);
      behind = c.loop-low.invariant.behind;
    }

pub loop-low-preserved : goal.loop-low-preserved
loop-low-preserved c =
    let m = c.loop-low.low + (c.loop-low.high - c.loop-low.low) / 2 in
    let w = c.loop-low.invariant.within in
    let t = c.loop-low-test.true in
    record {
      within = omega arith;
      order = omega arith;
      before = c.loop-low.invariant.before;
      behind = above-more c.args.objects.now c.args.base m c.nth_ref.result.now (bases-rise c.args.objects.now c.len-high.ensures.rows c.len-high.ensures.apart) (omega arith) c.nth_ref.ensures
          (let v = c.base.ensures.value in let l = c.if-base.false in omega arith);
    }

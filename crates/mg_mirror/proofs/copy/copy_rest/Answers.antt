use Rattle.{mg_disk.specs.Disk.InRange, mg_mirror.proofs.Copied.{before_more, seen_more, steps_then, torn_more}, std.proofs.Common.{◌≡◌, ◌+◌, ◌≤◌}}
use Rattle.std.proofs.Common.{arith, length, min, rules, take}
use Rattle.mg_mirror.proofs.copy.copy_rest.Goals as goal

pub loop-next-preserved : goal.loop-next-preserved
loop-next-preserved g c =
    let d = g.D.Disk in
    let e = g.E.Disk in
    let inv = c.loop-next.invariant in
    let next = c.loop-next.next in
    let count = length (take c.min-count.result c.loop-next.run) in
    let told = c.in_ok-copy_run.ensures in
    let from_start = inv.from_start in
    let end : next + count ≡ min (next + 32) c.args.blocks = search rules in
    record {
      from_start = omega arith;
      stops = torn_more e c.args.to.now c.loop-next.to c.copy_run.new.to (λ k. c.args.start ≤ k) (InRange next count) (λ k at. let from = at.from in omega arith) inv.stops told.stops;
      seen = seen_more (λ k. c.args.start ≤ k) (InRange next count) (e.seen c.args.to.now) (e.seen c.loop-next.to) (e.seen c.copy_run.new.to) (λ k at. let from = at.from in omega arith) inv.seen told.seen;
      copied = before_more c.args.start c.args.blocks next count (next + 32) (d.seen c.args.from.now) (d.seen c.loop-next.from) (e.seen c.loop-next.to) (e.seen c.copy_run.new.to) inv.steps.reads.same (λ i below low. omega arith)
          inv.copied told.seen (told.copied c.if-not-branch.false);
      steps = steps_then d e c.args.from.now c.loop-next.from c.copy_run.new.from c.args.to.now c.loop-next.to c.copy_run.new.to inv.steps told.calls.steps;
    }

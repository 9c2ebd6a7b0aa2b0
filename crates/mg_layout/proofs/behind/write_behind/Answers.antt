use Rattle.{mg_disk.specs.{Disk.only_place, PlaceLemmas.same_as, Runs.{from_yet, torn_more}}, mg_layout.proofs.FormatSteps.{map_more, map_none}}
use Rattle.{mg_layout.specs.FreshBelow.with_block, std.proofs.Common.{◌+◌, ◌≤◌, ◌∙◌, ap, rules, arith, option_map}}
use Rattle.mg_layout.proofs.behind.write_behind.Goals as goal

pub loop-i-init : goal.loop-i-init
loop-i-init g c = search (rules, map_none, from_yet, same_as)

pub loop-i-preserved : goal.loop-i-preserved
loop-i-preserved g c =
    let p = c.args.params.now in
    let i = c.loop-i.i in
    let sofar = c.loop-i.invariant in
    record {
      blocks = c.write_fresh.ensures.calls.blocks ∙ sofar.blocks;
      count = grind arith;
      written = c.in_ok-write_fresh.ensures.written ∙ ap (option_map (with_block p (i + 1))) sofar.written ∙ map_more p i (g.D.Disk.seen c.args.disk.now);
      torn = torn_more g.D.Disk c.args.disk.now c.loop-i.disk c.write_fresh.new.disk (only_place (i + 1)) (λ k. 1 ≤ k) sofar.torn c.write_fresh.ensures.stops (λ k is. omega arith);
    }

pub returns-in_err-write_fresh-clause-any_moment : goal.returns-in_err-write_fresh-clause-any_moment
returns-in_err-write_fresh-clause-any_moment g c =
    torn_more g.D.Disk c.args.disk.now c.loop-i.disk c.write_fresh.new.disk (only_place (c.loop-i.i + 1)) (λ k. 1 ≤ k) c.loop-i.invariant.torn c.write_fresh.ensures.stops (λ k is. omega arith)

use Rattle.{mg_faults.specs.Faults.{count_none, count_then}, mg_kernel.specs.Meaning.now_of, mg_model.specs.declared.calls.Line.Line}
use Rattle.{mg_session.{proofs.GeneratedSteps.{Counted-more, Counted-none}, specs.Generating.Counts}, std.proofs.Common.{◌≡◌, Some, arith, refl}}
use Rattle.std.proofs.Common.{subst, ◌∙◌}
use Rattle.mg_session.proofs.generating.tally_lines.Goals as goal

pub loop-k-init : goal.loop-k-init
loop-k-init g c = record {
  counted = Counted-none g.D.Disk c.warm_keys_are_kept.ensures.begins c.args.kernel.now c.args.disk.now c.args.steps.now c.new-tally.result c.new-tally.ensures;
  live = c.requires.live;
  stands = c.requires.stands;
  staged = omega (arith, c.requires.staged);
  blocks = refl;
  disk_count = count_none _ _;
}

pub loop-k-preserved : goal.loop-k-preserved
loop-k-preserved g c = record {
  counted = Counted-more g.D.Disk c.lines_are_calls.ensures (λ image. now_of c.args.kernel.now image) (λ image. g.D.Disk.seen c.args.disk.now ≡ Some image) c.args.number c.loop-k.k c.args.steps.now
      (record { kernel = c.loop-k.kernel; disk = c.loop-k.disk; counts = c.loop-k.tally; steps = c.loop-k.steps })
      (record { kernel = c.count_line.new.kernel; disk = c.count_line.new.disk; counts = c.count_line.new.tally; steps = c.count_line.new.steps })
      (omega (arith, c.requires.count_at_most_1000000, c.loop-k-test.true))
      (subst (λ (v : Line). Counts g.D.Disk (record { kernel = c.loop-k.kernel; disk = c.loop-k.disk; counts = c.loop-k.tally; steps = c.loop-k.steps }) v
      (record { kernel = c.count_line.new.kernel; disk = c.count_line.new.disk; counts = c.count_line.new.tally; steps = c.count_line.new.steps })) c.generated_line-line.ensures c.in-Ok.ensures.counts)
      c.loop-k.invariant.counted;
  live = c.in-Ok.ensures.live;
  stands = c.in-Ok.ensures.stands;
  staged = c.in-Ok.ensures.staged;
  blocks = c.in-Ok.ensures.calls.blocks ∙ c.loop-k.invariant.blocks;
  disk_count = count_then _ _ _ _ _ _ c.loop-k.invariant.disk_count c.in-Ok.ensures.calls.count;
}

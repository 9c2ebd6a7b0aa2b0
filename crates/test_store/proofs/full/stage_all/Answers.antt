use Rattle.{mg_model.specs.Replay.homes_fit, std.proofs.Common.{◌∙◌, ◌+◌, ap, arith, length, replicate}, test_store.proofs.StagedFit.staged_few}
use Rattle.test_store.proofs.StagedFit.{staged_fit}
use Rattle.test_store.proofs.full.stage_all.Goals as goal

pub loop-k-preserved : goal.loop-k-preserved
loop-k-preserved c =
    let writes = c.loop-k.writes in
    let block = c.args.first + c.loop-k.k in
    let below = c.loop-k-test.true in
    let low = c.requires.low in
    let high = c.requires.high in
    let inv = c.loop-k.invariant in
    record {
      few = omega (arith, ap length c.stage.ensures, staged_few writes block (replicate 4096 c.args.byte), inv.few);
      fit = ap (homes_fit 2578) c.stage.ensures ∙ staged_fit 2578 block _ (omega arith) (omega arith) writes inv.fit;
    }

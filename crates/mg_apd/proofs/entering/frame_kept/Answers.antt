use Rattle.mg_apd.proofs.Kept.{kept_more}
use Rattle.mg_apd.proofs.entering.frame_kept.Goals as goal

pub loop-place-preserved : goal.loop-place-preserved
loop-place-preserved c = kept_more c.args.mask c.args.back c.loop-place.place c.args.slots.now c.loop-place.frame (record { base = 0; password = 0 }) c.loop-place-test.true c.loop-place.invariant c.keep_slot.new.frame c.keep_slot.ensures

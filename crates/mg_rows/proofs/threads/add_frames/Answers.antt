use Rattle.{mg_model.specs.Spelling.frame_bytes, mg_rows.proofs.ThreadRows.added, std.proofs.Common.arith}
use Rattle.mg_rows.proofs.threads.add_frames.Goals as goal

pub loop-frame-preserved : goal.loop-frame-preserved
loop-frame-preserved g c = record {
  value = added frame_bytes c.args.frames.now c.loop-frame.frame-index c.frame-item.result c.add_frame.new.filling c.loop-frame.filling c.args.filling.now c.loop-frame-test.true c.frame-item.is c.loop-frame.invariant.value c.add_frame.ensures.value;
  long = let a = c.add_frame.ensures.long in let b = c.loop-frame.invariant.long in omega arith;
}

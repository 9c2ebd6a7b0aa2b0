use Rattle.{mg_show.specs.{StateText.frame_text, Writing.Puts}, std.proofs.Common.{take, flat_map}}
use Rattle.mg_show.proofs.state.put_frames.Given as goal

abbrev pub invariant-loop-frame : goal.invariant-loop-frame
invariant-loop-frame g l = Puts g.K.Sink (flat_map frame_text (take l.frame-index l.frames)) l.initial.sink l.sink l.initial.out l.out

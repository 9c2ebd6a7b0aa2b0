use Rattle.{mg_model.specs.State.ThreadRow, mg_show.specs.{StateText.{frame_text, thread_text, registers_text}, WritingLemmas.{puts_all, puts_more}}}
use Rattle.{mg_show.specs.WritingLemmas.{puts_same, puts_then}, std.proofs.Common.{ℕ, ◌+◌, ap, arith, ◌∙◌, flat_map}}
use Rattle.mg_show.proofs.state.put_threads.Goals as goal

pub loop-t-preserved : goal.loop-t-preserved
loop-t-preserved g c =
    puts_more g.K.Sink (λ (t : ℕ × ThreadRow). thread_text (record { number = t.0 + 1; row = t.1 })) c.args.threads.now c.loop-t.t-index c.t-item.result (omega arith) c.t-item.is c.loop-t.invariant
    (puts_then g.K.Sink (puts_then g.K.Sink (puts_same g.K.Sink c.print_thread.ensures c.line.ensures) (puts_same g.K.Sink (c.print_words.ensures ∙ ap registers_text c.regs.ensures) c.line-in-loop-t.ensures))
    (puts_same g.K.Sink (ap (flat_map frame_text) c.frames.ensures) c.put_frames.ensures))

pub returns : goal.returns
returns g c =
    puts_all g.K.Sink (flat_map (λ (t : ℕ × ThreadRow). thread_text (record { number = t.0 + 1; row = t.1 }))) c.args.threads.now
    c.loop-t.t-index (omega arith) c.loop-t.invariant

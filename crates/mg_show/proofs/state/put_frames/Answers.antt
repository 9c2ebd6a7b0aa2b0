use Rattle.{mg_model.specs.Print.hex_text, mg_show.specs.{StateText.{frame_text, line, slot_text}, WritingLemmas.{puts_more, puts_same, puts_then}}}
use Rattle.std.proofs.Common.{[], ◌∷◌, ap, arith, ◌∙◌, codes, flat_map}
use Rattle.mg_show.proofs.state.put_frames.Goals as goal

pub loop-frame-preserved : goal.loop-frame-preserved
loop-frame-preserved g c =
    puts_more g.K.Sink frame_text c.args.frames.now c.loop-frame.frame-index c.frame-item.result (omega arith) c.frame-item.is c.loop-frame.invariant
    (puts_then g.K.Sink (puts_same g.K.Sink (c.print_words.ensures ∙ ap (λ back. line (codes "frame") (hex_text back ∷ [])) c.back.ensures.value) c.line.ensures)
    (puts_same g.K.Sink (ap (flat_map (slot_text (codes "slot"))) c.slots.ensures) c.put_slots.ensures))

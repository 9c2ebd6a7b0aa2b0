use Rattle.{mg_model.specs.{Access.last_slots, State.ThreadRow}, mg_show.{proofs.Drawing.slots-last, specs.{DotText.slot_arrow, Shown.bare}}}
use Rattle.{mg_show.specs.WritingLemmas.{puts_more, puts_same}, std.proofs.Common.{ℕ, ◌+◌, ap, arith, flat_map}}
use Rattle.mg_show.proofs.graph.put_domains.Goals as goal

pub loop-t-preserved : goal.loop-t-preserved
loop-t-preserved g c =
    let t = c.t-item.result in
    let arrows = slot_arrow (bare c.args.shown.now) (t.0 + 1) in
    puts_more g.K.Sink (λ (t : ℕ × ThreadRow). flat_map (slot_arrow (bare c.args.shown.now) (t.0 + 1)) (last_slots t.1.frames))
    c.args.threads.now c.loop-t.t-index t (omega arith) c.t-item.is c.loop-t.invariant
    (puts_same g.K.Sink (ap (flat_map arrows)
    (slots-last t.1.frames c.last-last.result c.slots.result.now c.last-last.ensures c.slots.ensures)) c.put_slots.ensures)

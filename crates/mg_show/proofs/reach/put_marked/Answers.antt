use Rattle.{mg_model.specs.Rights.has_right, mg_show.{proofs.{ByPlaces.places-more, Reaching.bits-line}, specs.Reached.{bits_line, row_reach}}}
use Rattle.{mg_show.specs.WritingLemmas.{puts_same, puts_then}, std.proofs.Common.{ap, ◌∙◌, arith, slice_index}}
use Rattle.mg_show.proofs.reach.put_marked.Goals as goal

pub loop-i-preserved : goal.loop-i-preserved
loop-i-preserved g c =
    let row = c.row-row.result.now in
    let bits = slice_index c.args.bytes.now c.loop-i.i in
    puts_same g.K.Sink (places-more (λ i row. row_reach c.args.thread (has_right (slice_index c.args.bytes.now i)) row)
    c.args.shown.now.objects c.loop-i.i (omega arith) row c.row-row.ensures)
    (puts_then g.K.Sink c.loop-i.invariant (puts_then g.K.Sink
    (puts_same g.K.Sink (ap (λ base. bits_line c.args.thread base bits) c.base.ensures.value ∙ bits-line c.args.thread row.base bits) c.put_rights.ensures)
    c.put_doors.ensures))

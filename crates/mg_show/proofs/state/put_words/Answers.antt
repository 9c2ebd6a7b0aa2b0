use Rattle.mg_show.{proofs.WordTexts.row_text-pages, specs.{WordText.{rows_text, row_text}, WritingLemmas.{objects_more, of_all, of_put, of_same}}}
use Rattle.{mg_show.specs.WritingLemmas.{of_then, puts_none}, std.proofs.Common.{◌/◌, ap, arith, length}}
use Rattle.mg_show.proofs.state.put_words.Goals as goal

pub loop-i-init : goal.loop-i-init
loop-i-init g c = of_put g.D.Disk g.K.Sink (g.met.D.Disk.now_has_been c.args.disk.now) (puts_none g.K.Sink c.args.sink.now c.args.out.now)

pub loop-i-preserved : goal.loop-i-preserved
loop-i-preserved g c =
    let table = c.args.shown.now.frames in
    let row = c.row-row.result.now in
    of_same g.D.Disk g.K.Sink (λ r. objects_more (row_text r (length table) table) c.args.shown.now.objects c.loop-i.i row (omega arith) c.row-row.ensures)
    (of_then g.D.Disk g.K.Sink c.loop-i.invariant
    (of_same g.D.Disk g.K.Sink (λ r. row_text-pages r (length table) table row _ _ (ap (λ base. base / 4096) c.base.ensures.value) c.pages.ensures c.base.ensures.kept.place.aligned) c.put_pages.ensures))

pub returns : goal.returns
returns g c =
    let table = c.args.shown.now.frames in
    of_all g.D.Disk g.K.Sink (λ r. rows_text r (length table) table) c.args.shown.now.objects c.loop-i.i (omega arith) c.loop-i.invariant

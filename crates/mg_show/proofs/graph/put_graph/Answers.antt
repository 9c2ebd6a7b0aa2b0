use Rattle.{mg_show.{proofs.Drawing.dot-told, specs.WritingLemmas.of_same}, std.proofs.Common.arith}
use Rattle.mg_show.proofs.graph.put_graph.Goals as goal

pub returns : goal.returns
returns g c =
    let long = c.requires.long_ranks in
    of_same g.D.Disk g.K.Sink
    (λ r.
    dot-told c.args.shown.now r c.deref.result.now c.mark_opened.new.bytes c.fill.new.marks c.mark_opened.ensures.opened
    (λ i below. c.fill.ensures.same i (omega arith))
    c.deref.ensures.value) c.put_ranked.ensures

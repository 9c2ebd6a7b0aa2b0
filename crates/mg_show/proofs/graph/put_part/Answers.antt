use Rattle.{mg_show.{proofs.{Drawing.part-told, Walking.ranked-first}, specs.{Drawn.bases_of, WritingLemmas.of_after}}, std.proofs.Common.arith}
use Rattle.std.proofs.Common.{refl}
use Rattle.mg_show.proofs.graph.put_part.Goals as goal

pub returns : goal.returns
returns g c =
    let shown = c.args.shown.now in
    let bases = bases_of c.args.slots.now in
    let long = c.requires.long_ranks in
    of_after g.D.Disk g.K.Sink c.walk.ensures.ranks.reads c.put_ranked.ensures
    (λ none r told.
    part-told shown r c.args.drawn.now c.mark_opened.new.bytes c.walk.new.ranks c.mark_opened.ensures.opened bases c.args.steps
    (c.walk.ensures.ranks.is none r told bases
    (ranked-first shown r bases c.args.slots.now c.fill.new.marks c.rank.new.ranks refl
    (λ i below. c.fill.ensures.same i (omega arith)) c.rank.ensures)))

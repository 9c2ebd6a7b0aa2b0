use Rattle.{mg_gen.proofs.Tallied.tallied, std.proofs.Common.◌∙◌}
use Rattle.mg_gen.proofs.tally.Tally.count.Goals as goal

pub returns : goal.returns
returns c = λ replies same few.
    tallied replies c.args.reply.now c.self.inside.counts c.row-row.result c.saturating_add.result (c.self.view_is ∙ same) few c.row-row.ensures.value c.row-row.ensures.within
    c.saturating_add.ensures

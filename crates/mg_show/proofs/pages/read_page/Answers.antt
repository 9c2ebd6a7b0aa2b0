use Rattle.{mg_model.specs.{Bytes.block_words, Layout.first_frame}, mg_show.proofs.WordTexts.page-held, std.proofs.Common.{ap, length, sym, ◌∙◌}}
use Rattle.mg_show.proofs.pages.read_page.Goals as goal

pub returns-in-Ok-clause-page : goal.returns-in-Ok-clause-page
returns-in-Ok-clause-page g c none r told =
    let shown = c.args.shown.now in
    ap block_words (c.in-Ok.ensures.block r told)
    ∙ page-held r (length shown.frames) shown.frames c.args.page c.in-Some.frame c.of-first.result.first_frame (c.of-first.ensures.first ∙ ap first_frame c.len.ensures.count) (sym c.in-Some.ensures)

use Rattle.{mg_model.specs.{Access.pairs_of, Objects.page_of, Volume.page_words}, mg_show.proofs.Listing.list_first, std.proofs.Common.{◌/◌, ap}}
use Rattle.std.proofs.Common.{length, ◌∙◌}
use Rattle.mg_show.proofs.pages.list_of.Goals as goal

pub returns : goal.returns
returns g c =
    let table = c.args.shown.now.frames in
    let row = c.args.row.now in
    record {
      is = λ none r told.
          c.list_read.ensures
          ∙ ap pairs_of (c.read_page-is_held.ensures.page none r told)
          ∙ ap (λ base. pairs_of (page_words r (length table) table (base / 4096))) c.base.ensures.value
          ∙ list_first r (length table) table (page_of row) row.pages c.base.ensures.kept.place.some;
      reads = c.read_page-is_held.ensures.reads;
    }

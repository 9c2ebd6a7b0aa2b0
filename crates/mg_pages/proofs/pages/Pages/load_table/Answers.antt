use Rattle.{mg_pages.proofs.TableLoaded.stands-loaded, std.proofs.{Common.refl, lemmas.Result.on_ok_weaker}}
use Rattle.mg_pages.proofs.pages.Pages.load_table.Goals as goal

pub returns-clause-stands : goal.returns-clause-stands
returns-clause-stands g c =
    let e = c.load_pages-loaded.ensures in
    on_ok_weaker c.load_pages-loaded.result
    (λ is. stands-loaded g.D.Disk c.args.self.now _ c.load_pages-loaded.new.frames c.args.disk.now c.load_pages-loaded.new.disk refl refl e.count is e.stands e.reads.writes.same (g.met.D.Disk.seen_count c.load_pages-loaded.new.disk)) e.table

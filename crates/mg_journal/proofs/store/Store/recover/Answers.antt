use Rattle.{mg_disk.specs.BecomesLemmas.becomes-of, mg_journal.{proofs.NewestSteps.closed_holds, specs.{Looked.Placed, Recovery.IsRecovered}}}
use Rattle.{mg_journal.specs.Standing.{AllClosed, HoldsOpen, fits_held}, std.proofs.Common.{◌≡◌, ◌∙◌, ap, arith, refl, subst, sym, true}}
use Rattle.std.specs.Option.{ForSome}
use Rattle.mg_journal.proofs.store.Store.recover.Goals as goal

pub returns-in-Ok-clause-opened : goal.returns-in-Ok-clause-opened
returns-in-Ok-clause-opened g c =
    let total = c.clear.new.self.total in
    let looks = c.requires.looks in
    let low = looks.journal in
    let high = looks.room in
    let same : total ≡ c.args.view.total = c.clear.ensures.total ∙ ap (λ (v : Placed). v.total) c.sync_and_recover.ensures.same in
    let closed : ForSome (g.D.Disk.seen c.sync_and_recover.new.disk) AllClosed =
    λ now told. (becomes-of (IsRecovered c.args.view.total) (g.D.Disk.seen c.args.disk.now) (g.D.Disk.seen c.sync_and_recover.new.disk) now c.in-Ok.ensures.recovered told).2.closed in
    record {
      stands = record {
        journal = omega arith;
        room = omega (arith, c.sync_and_recover.ensures.calls.blocks);
        settled = c.in-Ok.ensures.settled;
        fits = λ now told.
            fits_held (record { total = total; live = true; opened = 0; table = c.clear.new.self.table }) now (subst (λ t. HoldsOpen total 0 t now) (sym c.clear.ensures.none) (closed_holds total now (closed now told)));
      };
      live = refl;
      total = same;
      closed = closed;
    }

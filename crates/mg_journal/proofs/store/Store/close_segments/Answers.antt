use Rattle.{mg_disk.specs.BecomesLemmas.becomes-of, mg_journal.{proofs.NewestSteps.closed_holds, specs.{Held.Store, Looked.{Fits, Placed}}}}
use Rattle.{mg_journal.specs.{Recovery.IsRecovered, Standing.{HoldsOpen, fits_held, held_fits}}, std.proofs.Common.{◌≡◌, ◌∙◌, ◌<◌, ap, arith, subst}}
use Rattle.std.proofs.{Common.sym, lemmas.Bool.lt-ltb}
use Rattle.mg_journal.proofs.store.Store.close_segments.Goals as goal

pub recover-requires-clause-looks : goal.recover-requires-clause-looks
recover-requires-clause-looks g c =
    let stands = c.requires.stands in
    let low = stands.journal in
    let high = stands.room in
    let same = ap (λ (s : Store). s.total) c.self.view_is in
    record {
      journal = omega arith;
      room = omega arith;
      fits = λ image told.
          let fits = subst (λ (s : Store). Fits (record { total = s.total; table = s.table }) image) (sym c.self.view_is) (held_fits c.args.self.now image (stands.fits image told)).fits in
          record { fit = fits.fit; newest = fits.newest };
    }

pub recover-requires-clause-gates : goal.recover-requires-clause-gates
recover-requires-clause-gates g c image told t low high =
    let store = c.args.self.now in
    let same = ap (λ (s : Store). s.opened) c.self.view_is in
    let few = c.self.invariant.few in
    let below : t < store.opened = omega (arith, same) in
    (held_fits store image (c.requires.stands.fits image told)).gates t (omega arith) ∙ lt-ltb t store.opened below

pub returns-clause-closed : goal.returns-clause-closed
returns-clause-closed g c now told =
    (becomes-of (IsRecovered c.self.inside.view.total) (g.D.Disk.seen c.args.disk.now) (g.D.Disk.seen c.recover.new.disk) now c.in_ok-recover.ensures.recovered told).2.closed

pub returns-clause-stands : goal.returns-clause-stands
returns-clause-stands g c =
    let total = c.clear.new.self.total in
    let stands = c.requires.stands in
    let low = stands.journal in
    let high = stands.room in
    let same = ap (λ (s : Store). s.total) c.self.view_is in
    let kept : total ≡ c.self.inside.view.total = c.clear.ensures.total ∙ ap (λ (v : Placed). v.total) c.recover.ensures.same in
    record {
      journal = omega arith;
      room = omega (arith, c.recover.ensures.calls.blocks);
      settled = c.in_ok-recover.ensures.settled c.requires.stands.settled;
      fits = λ now told.
          fits_held (record { total = total; live = c.self.inside.live; opened = 0; table = c.clear.new.self.table }) now
          (subst (λ t. HoldsOpen total 0 t now) (sym c.clear.ensures.none) (closed_holds total now (returns-clause-closed g c now told)));
    }

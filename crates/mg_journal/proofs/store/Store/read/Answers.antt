use Rattle.{mg_disk.specs.Runs.still_seen, mg_journal.specs.{Held.Store, Looked.Fits, Standing.held_fits}, std.proofs.Common.{arith, sym, subst}}
use Rattle.mg_journal.proofs.store.Store.read.Goals as goal

pub read-requires-clause-fits : goal.read-requires-clause-fits
read-requires-clause-fits g c image told =
    let fits = subst (λ (s : Store). Fits (record { total = s.total; table = s.table }) image) (sym c.self.view_is) (held_fits c.args.self.now image (c.requires.stands.fits image told)).fits in
    record { fit = fits.fit; newest = fits.newest }

pub returns-clause-stands : goal.returns-clause-stands
returns-clause-stands g c = grind (arith, still_seen)

use Rattle.std.proofs.Common.{◌∙◌, sym}
use Rattle.test_store.proofs.views.begins.Goals as goal

pub read-requires-clause-fits : goal.read-requires-clause-fits
read-requires-clause-fits c image told = c.in-Ok.ensures.fits image (sym c.look.ensures.reads.writes.same ∙ told)

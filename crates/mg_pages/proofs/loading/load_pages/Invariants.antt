use Rattle.mg_pages.proofs.Loaded.{AreRead}
use Rattle.mg_pages.proofs.loading.load_pages.Given as goal

abbrev pub invariant-loop-k : goal.invariant-loop-k
invariant-loop-k g l = AreRead g.D.Disk l.fn.blocks.store l.k l.fn.frames l.frames l.fn.disk l.disk

use Rattle.{mg_journal.proofs.ReadTogether.AreNewest, std.specs.Prelude.length}
use Rattle.mg_journal.proofs.view.View.read_blocks.Given as goal

abbrev pub invariant-loop-k : goal.invariant-loop-k
invariant-loop-k g l = AreNewest g.D.Disk l.fn.self.total l.first l.out l.k (length l.fn.out) l.fn.disk l.disk

use Rattle.mg_journal.specs.Applied.{AreInRow}
use Rattle.mg_journal.proofs.applying.count_row.Given as goal

abbrev pub invariant-loop-j : goal.invariant-loop-j
invariant-loop-j l = AreInRow l.places l.first l.j

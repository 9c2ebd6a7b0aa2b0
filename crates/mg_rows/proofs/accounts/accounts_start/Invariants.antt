use Rattle.mg_rows.proofs.AccountStarts.{AreRows}
use Rattle.mg_rows.proofs.accounts.accounts_start.Given as goal

-- the rows so far are there
abbrev pub invariant-loop-j : goal.invariant-loop-j
invariant-loop-j l = AreRows l.rows l.first l.j l.filling

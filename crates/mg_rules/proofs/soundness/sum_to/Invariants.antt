use Rattle.{mg_model.specs.declared.accounts.AccRow.AccRow, std.{proofs.Common.{◌≡◌, ◌+◌, take}, specs.Prelude.sum_by}}
use Rattle.mg_rules.proofs.soundness.sum_to.Given as goal

-- the balances so far are taken off
abbrev pub invariant-loop-row : goal.invariant-loop-row
invariant-loop-row l = l.left + sum_by (λ (row : AccRow). row.balance) (take l.row-index l.accounts) ≡ l.credits

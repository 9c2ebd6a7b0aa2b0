use Rattle.{mg_model.specs.{Ranges.IsWord, declared.accounts.AccRow.AccRow}, std.proofs.Common.{All, take}}
use Rattle.mg_volume.proofs.forming.accounts_keep_rules.Given as goal

-- the rows so far
abbrev pub invariant-loop-row : goal.invariant-loop-row
invariant-loop-row l = All (λ (row : AccRow). IsWord row.password) (take l.row-index l.accounts)

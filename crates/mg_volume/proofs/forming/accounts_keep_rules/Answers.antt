use Rattle.{mg_model.specs.{Ranges.IsWord, declared.accounts.AccRow.AccRow}, std.proofs.{Common.{All, subst}, lemmas.List.take_all}}
use Rattle.std.proofs.lemmas.List.Elements.{All-more}
use Rattle.mg_volume.proofs.forming.accounts_keep_rules.Goals as goal

pub loop-row-preserved : goal.loop-row-preserved
loop-row-preserved c = All-more (λ (row : AccRow). IsWord row.password) c.args.accounts.now c.loop-row.row-index _ c.loop-row-test.true c.loop-row.invariant c.has_word.ensures

pub returns : goal.returns
returns c = subst (All (λ (row : AccRow). IsWord row.password)) (take_all c.loop-row.row-index c.args.accounts.now c.loop-row-test.false) c.loop-row.invariant

use Rattle.{mg_calls_bank.proofs.AccountRows.{balance-closed, balance-told}, mg_model.specs.{Bank.opens, declared.accounts.AccRow.AccRow}}
use Rattle.mg_volume.specs.{Meaning.{accounts_in, now_of, objects_in}, RunLemmas.call_refused, StateLemmas.{now_accounts, now_rows}}
use Rattle.std.{proofs.Common.{ap, sym, ◌∙◌, rules}, specs.Prelude.List}
use Rattle.mg_calls_bank.proofs.banking.balance.Goals as goal

pub returns-then-opens : goal.returns-then-opens
returns-then-opens c = record {
  answers = λ image spelled formed.
      let v = c.args.volume.now in
      balance-told (now_of v image) (accounts_in v) (objects_in v) c.args.account c.args.password c.funds.result (now_accounts v image) (now_rows v image) (ap (λ (l : List AccRow). opens l c.args.account c.args.password) (sym c.bank.ensures.accounts) ∙ sym c.opens.ensures.opens ∙ c.if-opens.true) c.funds.ensures;
  stages = search rules;
  refused = search rules;
  slots = search rules;
}

pub returns-else-opens : goal.returns-else-opens
returns-else-opens c =
    call_refused _ _ _ _ (λ image spelled formed.
    let v = c.args.volume.now in
    balance-closed (now_of v image) (accounts_in v) c.args.account c.args.password (now_accounts v image) (ap (λ (l : List AccRow). opens l c.args.account c.args.password) (sym c.bank.ensures.accounts) ∙ sym c.opens.ensures.opens ∙ c.if-opens.false))

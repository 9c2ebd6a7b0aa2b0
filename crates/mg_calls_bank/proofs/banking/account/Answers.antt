use Rattle.{mg_calls_bank.proofs.AccountRows.{account-is, drawn-accounts, opened}, mg_model.specs.declared.accounts.AccRow.AccRow}
use Rattle.{mg_volume.specs.{Meaning.now_of, RunLemmas.{call_made, call_refused}, StateLemmas.now_accounts}, std.proofs.Common.{ap, sym, ◌∙◌, rules}}
use Rattle.std.specs.Prelude.{◌+◌, List, None, Some, length}
use Rattle.mg_bank.specs.Refusals as bank
use Rattle.mg_calls_bank.proofs.banking.account.Goals as goal

pub returns-in-Some : goal.returns-in-Some
returns-in-Some c =
    call_refused _ _ _ _ (λ image spelled formed.
    account-is c.args.volume.now image c.args.account c.args.password c.args.amount (Some c.in-Some.word) c.in-Some.ensures.word)

-- a draw leaves the accounts, and so what they refuse
pub unreachable-requires : goal.unreachable-requires
unreachable-requires c =
    let kept = drawn-accounts c.args.volume.now c.next_password-fresh.new.self c.next_password-fresh.ensures.now in
    let accepted = c.in-None.ensures.may.accepted in
    let again = ap (λ (accounts : List AccRow). bank.opening_refusal accounts c.args.account c.args.password c.args.amount) kept in
    let refused = c.in-Err.ensures.refusal in
    cc

pub returns-in-Ok : goal.returns-in-Ok
returns-in-Ok c =
    call_made _ _ _ _ _ (λ no. no) tt (λ image spelled formed.
    let v = c.args.volume.now in
    let mid = c.next_password-fresh.new.self in
    let told = now_accounts v image in
    let kept = drawn-accounts v mid c.next_password-fresh.ensures.now in
    account-is v image c.args.account c.args.password c.args.amount None c.in-None.ensures.word
    ∙ opened (now_of v image) (now_of mid image) (now_of c.open_account.new.self image) _ c.args.account c.args.amount c.in-Ok.number c.next_password-fresh.result
    (kept ∙ sym told)
    (c.in-Ok.ensures.number ∙ ap (λ (accounts : List AccRow). length accounts + 1) (kept ∙ sym told))
    (c.next_password-fresh.ensures.drawn image) (c.next_password-fresh.ensures.now image) (c.in-Ok.ensures.now image)) (search rules)

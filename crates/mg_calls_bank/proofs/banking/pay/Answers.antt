use Rattle.{mg_calls_bank.proofs.AccountRows.{paid, pay-is}, mg_model.specs.{BankCalls.pay, declared.replies.Reply.TheVariants.No}}
use Rattle.mg_volume.specs.{Calls.{Answers, CallStages}, Held.VolumeHeld, Meaning.{accounts_in, now_of}, RunLemmas.{call_made, call_refused}}
use Rattle.{mg_volume.specs.StateLemmas.now_accounts, std.{proofs.Common.{subst, sym, ◌∙◌, rules}, specs.Prelude.{None, Some}}}
use Rattle.mg_calls_bank.proofs.banking.pay.Goals as goal

pub returns-in-Ok : goal.returns-in-Ok
returns-in-Ok c =
    call_made _ _ _ _ _ (λ no. no) tt (λ image spelled formed.
    let v = c.args.volume.now in
    pay-is v image c.args.account c.args.password c.args.to c.args.amount None (sym c.in-Ok.ensures.refusal)
    ∙ paid (now_of v image) (now_of c.pay.new.self image) (accounts_in v) c.args.account c.args.to c.args.amount (sym (now_accounts v image)) (c.in-Ok.ensures.now image)) (search rules)

pub returns-in-Err : goal.returns-in-Err
returns-in-Err c =
    let v = c.args.volume.now in
    let P : VolumeHeld → Type 0 = λ w. CallStages (Answers (λ state. pay state c.args.account c.args.password c.args.to c.args.amount)) 2 v w (No c.in-Err.word) in
    subst P (sym c.in-Err.ensures.stays)
    (call_refused _ _ _ _ (λ image spelled formed. pay-is v image c.args.account c.args.password c.args.to c.args.amount (Some c.in-Err.word) (sym c.in-Err.ensures.refusal)))

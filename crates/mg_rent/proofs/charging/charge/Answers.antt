use Rattle.{mg_bank.specs.Bank.credits_of, mg_rent.proofs.Charged.{charge-moves, charged-where, paid-where}, std.proofs.Common.{ap, sym, ◌∙◌, length}}
use Rattle.std.proofs.{Common.arith, lemmas.List.length-set}
use Rattle.mg_rent.proofs.charging.charge.Goals as goal

pub set-requires-clause-credits : goal.set-requires-clause-credits
set-requires-clause-credits c = omega (arith, charge-moves c.args.bank.now.accounts c.args.account c.settled-pays.result.1 c.in-Some.row c.settled-pays.result.0 (sym c.in-Some.ensures.found) c.settled-pays.ensures.balance, c.keep_rules.ensures.credits)

pub returns-in-Some-clause-accounts : goal.returns-in-Some-clause-accounts
returns-in-Some-clause-accounts c few = c.set.ensures.accounts ∙ charged-where c.args.bank.now.accounts c.args.account c.args.due c.in-Some.row c.settled-pays.result.0 c.settled-pays.result.1 (sym c.in-Some.ensures.found) c.settled-pays.ensures.exact few

pub returns-in-Some-clause-paid : goal.returns-in-Some-clause-paid
returns-in-Some-clause-paid c few = paid-where c.args.bank.now.accounts c.args.account c.args.due c.in-Some.row c.settled-pays.result.0 c.settled-pays.result.1 (sym c.in-Some.ensures.found) c.settled-pays.ensures.exact few

pub returns-in-Some-clause-count : goal.returns-in-Some-clause-count
returns-in-Some-clause-count c = ap length c.set.ensures.accounts ∙ length-set _ _ _

pub returns-in-Some-clause-sum : goal.returns-in-Some-clause-sum
returns-in-Some-clause-sum c =
    let moved = charge-moves c.args.bank.now.accounts c.args.account c.settled-pays.result.1 c.in-Some.row c.settled-pays.result.0 (sym c.in-Some.ensures.found) c.settled-pays.ensures.balance in
    let put = ap credits_of c.set.ensures.accounts in
    omega (arith, moved, put)

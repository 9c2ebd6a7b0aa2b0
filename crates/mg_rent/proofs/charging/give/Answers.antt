use Rattle.{mg_bank.specs.Bank.credits_of, mg_rent.proofs.Charged.{balance-le, give-moves}, std.proofs.Common.{ap, sym, ◌∙◌, arith}}
use Rattle.mg_rent.proofs.charging.give.Goals as goal

pub overflow_add-more : goal.overflow_add-more
overflow_add-more c = omega (arith, balance-le c.args.bank.now.accounts c.args.account c.in-Some.row (sym c.in-Some.ensures.found), c.requires.fits)

pub set-requires-clause-credits : goal.set-requires-clause-credits
set-requires-clause-credits c = omega (arith, give-moves c.args.bank.now.accounts c.args.account c.args.amount c.in-Some.row (sym c.in-Some.ensures.found), c.requires.fits)

pub returns-in-Some-clause-sum : goal.returns-in-Some-clause-sum
returns-in-Some-clause-sum c = ap credits_of c.set.ensures.accounts ∙ give-moves c.args.bank.now.accounts c.args.account c.args.amount c.in-Some.row (sym c.in-Some.ensures.found)

use Rattle.{mg_text.proofs.Leads.{word-no, word-not}, std.proofs.Common.{sym, ◌∙◌, arith}}
use Rattle.mg_text.proofs.numbers.value.Goals as goal

pub returns-in_err-n : goal.returns-in_err-n
returns-in_err-n c = c.from_residual.ensures ∙ sym (word-no c.args.base c.args.most c.args.digits.now c.in_err-n.ensures.number)

pub returns-else-count-digits : goal.returns-else-count-digits
returns-else-count-digits c = sym (word-not c.args.base c.args.most c.in_ok-n.count c.args.digits.now c.in_ok-n.ensures.count (let few = c.in_ok-n.ensures.within in omega (arith, few)))

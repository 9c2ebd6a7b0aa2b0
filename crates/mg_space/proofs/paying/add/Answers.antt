use Rattle.{mg_model.specs.State.ObjectRow, mg_space.proofs.Paid.added, std.proofs.Common.{ap, arith}}
use Rattle.mg_space.proofs.paying.add.Goals as goal

pub returns-clause-pages : goal.returns-clause-pages
returns-clause-pages c =
    let total = c.pages-total.ensures in
    let payer = ap (λ (row : ObjectRow). row.account) c.row.view_is in
    let pages = ap (λ (row : ObjectRow). row.pages) c.row.view_is in
    added c.args.bank.now.pages c.set_pages.new.self.pages c.args.row.now c.row.inside.account _ payer c.set_pages.ensures.pages (omega arith)

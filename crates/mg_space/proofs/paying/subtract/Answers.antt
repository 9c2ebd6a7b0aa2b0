use Rattle.{mg_bank.specs.Bank.pages_at, mg_model.specs.State.ObjectRow, mg_space.proofs.Paid.subtracted, std.proofs.Common.{ap, arith}}
use Rattle.mg_space.proofs.paying.subtract.Goals as goal

pub returns-clause-pages : goal.returns-clause-pages
returns-clause-pages c =
    let total = c.pages-total.ensures in
    let payer = ap (λ (row : ObjectRow). row.account) c.row.view_is in
    let pages = ap (λ (row : ObjectRow). row.pages) c.row.view_is in
    let same = ap (pages_at c.args.bank.now.pages) payer in
    let enough = c.requires in
    subtracted c.args.bank.now.pages c.set_pages.new.self.pages c.args.row.now c.row.inside.account _ payer c.set_pages.ensures.pages (omega arith)

use Rattle.{mg_bank.{proofs.Pages.pages_set, specs.Bank.{BankHeld, pages_at}}, std.proofs.Common.{◌==◌, ◌∙◌, ap, arith, if◌then◌else◌}}
use Rattle.mg_bank.proofs.bank.Bank.set_pages.Goals as goal

pub returns-clause-pages : goal.returns-clause-pages
returns-clause-pages c =
    λ k.
    let long = c.self.invariant.places in
    let within = c.requires in
    pages_set c.self.inside.pages.items c.args.account c.args.pages (omega arith) k
    ∙ ap (λ (b : BankHeld). if c.args.account == k then c.args.pages else pages_at b.pages k) c.self.view_is

use Rattle.{mg_bank.proofs.Pages.no_pages, std.proofs.Common.{◌≡◌, replicate, rules}}
use Rattle.mg_bank.proofs.bank.Bank.of.Goals as goal

pub returns-clause-no_pages : goal.returns-clause-no_pages
returns-clause-no_pages c =
    let zeros : c.in_ok-pages.pages.items ≡ replicate 1025 0 = search rules in
    no_pages c.in_ok-pages.pages.items zeros

use Rattle.{mg_bank.specs.Bank.pages_at, mg_space.specs.Space.paid_by, std.proofs.Common.{◌≡◌, ℕ, take}}
use Rattle.mg_space.proofs.paying.bill.Given as goal

abbrev pub invariant-loop-i : goal.invariant-loop-i
invariant-loop-i l = record {
  pages : (n : ℕ) → pages_at l.bank.pages n ≡ paid_by n (take l.i l.objects);
  accounts : l.bank.accounts ≡ l.fn.bank.accounts;
}

use Rattle.{mg_bank.specs.Bank.credits_of, mg_rent.{proofs.Charged.{AreCharged, bare}, specs.Charging.OweAtMost}, std.proofs.Common.{◌≡◌, ◌+◌, ◌^◌}}
use Rattle.std.proofs.Common.{length}
use Rattle.mg_rent.proofs.collecting.collect_rent.Given as goal

abbrev pub invariant-loop-i : goal.invariant-loop-i
invariant-loop-i l = record {
  charged : OweAtMost (2 ^ 60) l.fn.bank.accounts → AreCharged (bare l.fn.bank.pages) l.rate l.fn.bank.accounts l.bank.accounts l.sum l.i;
  count : length l.bank.accounts ≡ length l.fn.bank.accounts;
  credits : credits_of l.bank.accounts + l.sum ≡ credits_of l.fn.bank.accounts;
  pages : l.bank.pages ≡ l.fn.bank.pages;
}

use Rattle.{mg_bank.specs.Bank.pages_at, mg_show.specs.{StateText.accounts_text, Writing.Puts}, std.proofs.Common.take}
use Rattle.mg_show.proofs.state.put_accounts.Given as goal

abbrev pub invariant-loop-i : goal.invariant-loop-i
invariant-loop-i g l = Puts g.K.Sink (accounts_text (pages_at l.bank.pages) 1 (take l.i l.bank.accounts)) l.initial.sink l.sink l.initial.out l.out

use Rattle.{mg_bank.specs.Bank.pages_at, mg_model.specs.declared.accounts.AccRow.AccRow, mg_show.proofs.TextTold.accounts-next}
use Rattle.{mg_show.specs.WritingLemmas.{puts_same, puts_then}, std.proofs.Common.{◌+◌, arith}}
use Rattle.mg_show.proofs.state.put_accounts.Goals as goal

-- in the place of no account
abbrev none : AccRow
none = record { password = 0; balance = 0; owed = 0 }

pub loop-i-preserved : goal.loop-i-preserved
loop-i-preserved g c =
    let count = c.len-i-end.ensures.count in
    puts_same g.K.Sink (accounts-next (pages_at c.args.bank.now.pages) (c.loop-i.i + 1) c.args.bank.now.accounts c.loop-i.i none c.rows.result.now c.pages.result (omega arith) (omega arith) c.rows.ensures c.pages.ensures)
    (puts_then g.K.Sink c.loop-i.invariant (puts_same g.K.Sink c.print_account.ensures c.line.ensures))

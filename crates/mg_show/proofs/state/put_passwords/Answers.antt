use Rattle.{mg_show.specs.{StateText.password_text, WritingLemmas.{puts_more, puts_same}}, std.proofs.Common.arith}
use Rattle.mg_show.proofs.state.put_passwords.Goals as goal

pub loop-row-preserved : goal.loop-row-preserved
loop-row-preserved g c = puts_more g.K.Sink password_text c.args.rows.now c.loop-row.row-index c.row-item.result (omega arith) c.row-item.is c.loop-row.invariant (puts_same g.K.Sink c.print_password.ensures c.line.ensures)

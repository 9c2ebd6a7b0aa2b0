use Rattle.{mg_show.specs.{StateText.password_text, Writing.Puts}, std.proofs.Common.{take, flat_map}}
use Rattle.mg_show.proofs.state.put_passwords.Given as goal

abbrev pub invariant-loop-row : goal.invariant-loop-row
invariant-loop-row g l = Puts g.K.Sink (flat_map password_text (take l.row-index l.rows)) l.initial.sink l.sink l.initial.out l.out

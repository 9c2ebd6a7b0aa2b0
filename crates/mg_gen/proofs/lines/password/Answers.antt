use Rattle.{mg_gen.proofs.Passwords.password-is, std.proofs.Common.◌∙◌}
use Rattle.mg_gen.proofs.lines.password.Goals as goal

pub returns : goal.returns
returns c = c.password_number.ensures ∙ password-is c.passwords_are_drawn.ensures c.args.k c.requires.from c.requires.to

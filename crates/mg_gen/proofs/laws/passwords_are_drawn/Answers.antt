use Rattle.mg_gen.proofs.Passwords.{passwords-drawn}
use Rattle.mg_gen.proofs.laws.passwords_are_drawn.Goals as goal

pub returns : goal.returns
returns c = passwords-drawn

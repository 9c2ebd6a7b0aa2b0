use Rattle.std.proofs.Common.{rules}
use Rattle.mungi_text.proofs.program.carry_out.Goals as goal

pub returns : goal.returns
returns g c = record { status = c.carried_out-status.result; did = c.carried_out-status.ensures; is_code = search rules }

use Rattle.std.proofs.Common.{rules}
use Rattle.mungi_asm.proofs.program.carry_out.Goals as goal

pub returns : goal.returns
returns g c = record { status = c.command-status.result; did = c.command-status.ensures; is_code = search rules }

use Rattle.std.proofs.Common.{rules}
use Rattle.mungi.proofs.program.carry_out.Goals as goal

pub returns : goal.returns
returns g c = record {
  status = c.command-status.result;
  did = record { left = c.command-status.new.disk; did = c.command-status.ensures; writes = c.report_end.ensures };
  is_code = search rules;
}

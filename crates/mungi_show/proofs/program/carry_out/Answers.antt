use Rattle.std.proofs.Common.{rules}
use Rattle.mungi_show.proofs.program.carry_out.Goals as goal

pub returns : goal.returns
returns g c = record {
  status = c.show-status.result;
  did = record { left = c.show-status.new.disk; did = c.show-status.ensures; writes = c.report_end.ensures };
  is_code = search rules;
}

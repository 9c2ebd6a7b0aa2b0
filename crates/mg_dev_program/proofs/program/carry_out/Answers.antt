use Rattle.std.proofs.Common.{rules}
use Rattle.mg_dev_program.proofs.program.carry_out.Goals as goal

pub returns : goal.returns
returns g c = record {
  status = c.command-ran.result.0;
  did = record {
    left = c.command-ran.result.2;
    did = record { left = c.command-ran.result.3; did = c.command-ran.ensures; writes = c.report_files.ensures.right };
    writes = c.report_files.ensures.left;
  };
  is_code = search rules;
}

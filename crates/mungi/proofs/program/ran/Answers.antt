use Rattle.std.proofs.Common.{rules}
use Rattle.mungi.proofs.program.ran.Goals as goal

pub returns : goal.returns
returns g c = record {
  run = search rules;
  run_costs = search rules;
  dry = search rules;
  check = search rules;
  format = search rules;
  generated = search rules;
  usage = search rules;
  disk_alone = search rules;
  generated_alone = search rules;
  source_alone = search rules;
  steps_alone = search rules;
  not_spelled = search rules;
  no_volume = search rules;
  too_small = search rules;
  source_failed = search rules;
}

use Rattle.mg_dev_program.proofs.program.on_devices.Goals as goal

pub returns : goal.returns
returns g c = record { found = c.report_bases.new.disk; writes = c.report_bases.ensures; did = c.with_devices.ensures }

use Rattle.{mg_kernel.specs.Meaning.now_of, mg_window_session.{proofs.DeviceSteps.commits, specs.DeviceKernels.windows_in}}
use Rattle.mg_window_session.proofs.device_kernel.DeviceKernelMachine.commit.Goals as goal

pub returns-in-Ok-clause-done : goal.returns-in-Ok-clause-done
returns-in-Ok-clause-done g c = λ image seen. commits (windows_in g.T.Device.held c.args.self.now) (now_of c.args.self.now.kernel image) c.commit.new.self (g.D.Disk.seen c.commit.new.disk) (c.in-Ok.ensures.saves.done image seen)

pub returns-in-Ok-clause-stepped : goal.returns-in-Ok-clause-stepped
returns-in-Ok-clause-stepped g c = λ first start ls n steps st. st

pub returns-in-Err-clause-stepped : goal.returns-in-Err-clause-stepped
returns-in-Err-clause-stepped g c = λ first start ls n steps st. st

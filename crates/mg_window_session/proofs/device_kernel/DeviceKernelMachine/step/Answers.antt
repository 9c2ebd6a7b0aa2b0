use Rattle.mg_window_session.{proofs.DeviceSteps.{answers_line, stepped_line, stopped_line}, specs.DeviceKernels.machine_of}
use Rattle.mg_window_session.specs.declared.device_kernel.DeviceKernel.{DeviceKernel}
use Rattle.mg_window_session.proofs.device_kernel.DeviceKernelMachine.step.Goals as goal

pub returns-in-Ok-clause-answers : goal.returns-in-Ok-clause-answers
returns-in-Ok-clause-answers g c =
    let k : DeviceKernel _ = record { kernel = c.answer.new.kernel; windows = c.answer.new.windows } in
    λ image seen. answers_line (machine_of g.T.Device.held c.args.self.now image) (machine_of g.T.Device.held k image) c.args.line.now c.in-Ok.reply (c.in-Ok.ensures.answers.told image seen)

pub returns-in-Ok-clause-traces : goal.returns-in-Ok-clause-traces
returns-in-Ok-clause-traces g c =
    let k : DeviceKernel _ = record { kernel = c.answer.new.kernel; windows = c.answer.new.windows } in
    λ image seen first start ls n now st. stepped_line g.T.Device.held c.args.self.now k image c.args.line.now c.in-Ok.reply (c.in-Ok.ensures.answers.told image seen) first start ls now st

pub returns-in-Err-clause-traces : goal.returns-in-Err-clause-traces
returns-in-Err-clause-traces g c =
    let k : DeviceKernel _ = record { kernel = c.answer.new.kernel; windows = c.answer.new.windows } in
    λ image seen first start ls n now st. stopped_line g.T.Device.held c.args.self.now k c.args.line.now c.in-Err.ensures.failed first start ls st

use Rattle.mg_commands.specs.OpeningLemmas.{fault_tells, lines_opened, lines_unopened, no_volume, opened_then, unopened, untouched}
use Rattle.{mg_disk.specs.Stops.WritesNothing, mg_kernel.specs.Meaning.now_of, mg_layout.specs.MayFormat.IsNoState, mg_window.specs.Attached.Attached}
use Rattle.{mg_window.specs.Attached.seen, mg_window_session.proofs.{DeviceSteps.{fault_devices, leaves_devices}, Opened.opens_as}}
use Rattle.mg_window_session.specs.{DeviceKernels.{machine_of, windows_in}, Headline.{LeavesDevices, equipped}, Machine.{device_state, device_text}}
use Rattle.{mg_window_session.specs.declared.device_kernel.DeviceKernel.DeviceKernel, std.proofs.Common.{refl, sym, ap, ◌∙◌, subst}}
use Rattle.std.specs.Prelude.{Err}
use Rattle.mg_window_session.proofs.running.run.Goals as goal

pub returns-in-Ok-clause-keeps : goal.returns-in-Ok-clause-keeps
returns-in-Ok-clause-keeps g c = record {
  lines = lines_opened g.D.Disk g.S.Source g.K.Sink (λ s. device_text (equipped (seen g.T.Device.held c.args.windows) s)) (λ s. device_state (equipped (seen g.T.Device.held c.args.windows) s)) 1 _ (λ image. now_of c.in-Ok.kernel image) c.new-machine.result c.run-status.new.machine c.run-status.result c.args.disk.now c.open.new.disk c.run-status.new.disk c.args.source.now c.run-status.new.source c.args.sink.now c.run-status.new.sink c.args.steps.now c.run-status.new.steps
      (λ image seen. opens_as c.in-Ok.kernel _ _ (c.in-Ok.ensures.opens image seen)) c.in-Ok.ensures.any_moment c.in-Ok.ensures.calls.count (λ image. ap (λ (k : DeviceKernel _). device_text (machine_of g.T.Device.held k image)) c.new-machine.ensures) (λ image. ap (λ (k : DeviceKernel _). device_state (machine_of g.T.Device.held k image)) c.new-machine.ensures) (λ s. refl) c.run-status.ensures.serves;
  devices = opened_then (λ image. now_of c.in-Ok.kernel image) (g.D.Disk.seen c.args.disk.now) (g.D.Disk.seen c.open.new.disk) (λ s. LeavesDevices (equipped (seen g.T.Device.held c.args.windows) s) c.run-status.result (seen g.T.Device.held c.into_windows.result) (g.S.Source.left c.args.source.now) (g.K.Sink.taken c.args.sink.now) (g.K.Sink.taken c.run-status.new.sink)) (λ image seen. opens_as c.in-Ok.kernel _ _ (c.in-Ok.ensures.opens image seen))
      (λ image told. subst (λ (v : Attached). LeavesDevices (equipped (seen g.T.Device.held c.args.windows) (now_of c.in-Ok.kernel image)) c.run-status.result v (g.S.Source.left c.args.source.now) (g.K.Sink.taken c.args.sink.now) (g.K.Sink.taken c.run-status.new.sink)) (sym c.into_windows.ensures)
      (subst (λ (k : DeviceKernel _). LeavesDevices (machine_of g.T.Device.held k image) c.run-status.result (windows_in g.T.Device.held c.run-status.new.machine) (g.S.Source.left c.args.source.now) (g.K.Sink.taken c.args.sink.now) (g.K.Sink.taken c.run-status.new.sink)) c.new-machine.ensures
      (leaves_devices g.T.Device.held _ c.run-status.result c.new-machine.result c.run-status.new.machine image c.args.steps.now c.run-status.new.steps (λ ls a. a) (λ ls b. b) (g.S.Source.left c.args.source.now) (g.S.Source.left c.run-status.new.source) (g.K.Sink.taken c.args.sink.now) (g.K.Sink.taken c.run-status.new.sink)
      (c.run-status.ensures.serves.traces image told))));
  none_devices = λ h. absurd (no_volume c.run-status.result c.run-status.ensures.serves.which h);
  untouched_devices = λ image told no_state. absurd (subst IsNoState (c.in-Ok.ensures.opens image told).is no_state);
  memory_devices = λ h. c.into_windows.ensures ∙ ap (λ (k : DeviceKernel _). windows_in g.T.Device.held k) (c.run-status.ensures.memory h ∙ c.new-machine.ensures);
  none_steps = λ h. absurd (no_volume c.run-status.result c.run-status.ensures.serves.which h);
  untouched_steps = λ image told no_state. absurd (subst IsNoState (c.in-Ok.ensures.opens image told).is no_state);
}

pub returns-in-Err-clause-keeps : goal.returns-in-Err-clause-keeps
returns-in-Err-clause-keeps g c = record {
  lines = lines_unopened g.D.Disk g.S.Source g.K.Sink (λ s. device_text (equipped (seen g.T.Device.held c.args.windows) s)) (λ s. device_state (equipped (seen g.T.Device.held c.args.windows) s)) 1 c.in-Err.fault c.put_fault.result c.args.disk.now c.open.new.disk c.args.source.now c.args.sink.now c.put_fault.new.sink c.args.steps.now
      (fault_tells c.in-Err.fault (g.D.Disk.seen c.args.disk.now) (λ h. (c.in-Err.ensures.not h).is) (λ h. (c.in-Err.ensures.old h).is) (λ h. (c.in-Err.ensures.damaged h).is)) c.put_fault.ensures.ends
      (untouched c.in-Err.fault (WritesNothing g.D.Disk c.args.disk.now c.open.new.disk) (λ h. (c.in-Err.ensures.not h).untouched) (λ h. (c.in-Err.ensures.old h).untouched) (λ h. (c.in-Err.ensures.damaged h).untouched))
      c.in-Err.ensures.untouched c.put_fault.ensures.quiet c.put_fault.ensures.put c.put_fault.ensures.prefix c.put_fault.ensures.sink (λ is. c.in-Err.ensures.calls.cause (ap (λ fault. Err fault) is)) c.in-Err.ensures.any_moment (λ s. refl) (λ s. refl);
  devices = unopened c.in-Err.fault (g.D.Disk.seen c.args.disk.now) (λ s. LeavesDevices (equipped (seen g.T.Device.held c.args.windows) s) c.put_fault.result (seen g.T.Device.held c.args.windows) (g.S.Source.left c.args.source.now) (g.K.Sink.taken c.args.sink.now) (g.K.Sink.taken c.put_fault.new.sink))
      (fault_tells c.in-Err.fault (g.D.Disk.seen c.args.disk.now) (λ h. (c.in-Err.ensures.not h).is) (λ h. (c.in-Err.ensures.old h).is) (λ h. (c.in-Err.ensures.damaged h).is))
      (λ quiet image told s spelled. fault_devices (equipped (seen g.T.Device.held c.args.windows) s) c.in-Err.fault c.put_fault.result (g.S.Source.left c.args.source.now) (g.K.Sink.taken c.args.sink.now) (g.K.Sink.taken c.put_fault.new.sink) quiet c.put_fault.ensures.ends (ap (λ v. g.K.Sink.taken v) (c.put_fault.ensures.quiet quiet)));
  none_devices = λ h. refl;
  untouched_devices = λ image told no_state. refl;
  memory_devices = λ h. refl;
  none_steps = λ h. refl;
  untouched_steps = λ image told no_state. refl;
}

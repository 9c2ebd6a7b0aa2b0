use Rattle.{mg_commands.specs.Headline.session_of, mg_serve.specs.Sessions.use_of, mg_window.specs.Attached.{Attached, seen}}
use Rattle.{mg_window_session.{proofs.DeviceLines.{dev_keeps, not_begun}, specs.Headline.DevKeeps}, std.proofs.Common.{ap, subst}}
use Rattle.mg_window_session.proofs.running.run_and_tell.Goals as goal

pub returns-in-Ok : goal.returns-in-Ok
returns-in-Ok g c =
    let left = seen g.T.Device.held c.run-ran.result.windows in
    subst (λ (given : Attached). DevKeeps given left (session_of 1 c.put_devices.result (use_of g.D.Disk c.args.disk.now c.run-ran.new.disk) (use_of g.S.Source c.args.source.now c.run-ran.new.source) (use_of g.K.Sink c.args.sink.now c.put_devices.new.sink) c.args.steps.now c.run-ran.new.steps))
    (ap (λ windows. seen g.T.Device.held windows) c.replace-given.ensures.value)
    (dev_keeps g.D.Disk g.S.Source g.K.Sink c.run-ran.result.status c.put_devices.result (seen g.T.Device.held c.replace-given.result) left c.args.disk.now c.run-ran.new.disk c.args.source.now c.run-ran.new.source c.args.sink.now c.run-ran.new.sink c.put_devices.new.sink c.args.steps.now c.run-ran.new.steps
    c.run-ran.ensures.keeps c.put_devices.ensures.ends c.run-ran.ensures.sink_count c.put_devices.ensures.sink_count)

pub returns-in-Err : goal.returns-in-Err
returns-in-Err g c =
    not_begun g.D.Disk g.S.Source g.K.Sink (seen g.T.Device.held c.args.windows.now) c.args.disk.now c.args.source.now c.args.sink.now c.args.steps.now (g.met.D.Disk.now_has_been c.args.disk.now)

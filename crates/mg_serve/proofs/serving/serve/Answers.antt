use Rattle.mg_serve.{proofs.Endings.{session_at_disk, session_done, session_serves}, specs.Sessions.use_of}
use Rattle.mg_serve.proofs.serving.serve.Goals as goal

pub returns-clause-serves : goal.returns-clause-serves
returns-clause-serves g c =
    session_serves g.M.Machine (use_of g.D.Disk c.args.disk.now c.serve_lines.new.disk) (use_of g.S.Source c.args.source.now c.serve_lines.new.source) (use_of g.K.Sink c.args.sink.now c.serve_lines.new.sink)
    c.args.machine.now c.serve_lines.new.machine c.serve_lines.new.owed c.args.steps.now c.serve_lines.new.steps c.args.limit c.args.batch c.serve_lines.result
    c.serve_lines.ensures.finishes c.serve_lines.ensures.settled c.serve_lines.ensures.stops c.serve_lines.ensures.keeps.calls.cause c.serve_lines.ensures.source c.serve_lines.ensures.keeps.sink_cause

pub returns-clause-complete : goal.returns-clause-complete
returns-clause-complete g c =
    session_done g.M.Machine (use_of g.D.Disk c.args.disk.now c.serve_lines.new.disk) (use_of g.S.Source c.args.source.now c.serve_lines.new.source) (use_of g.K.Sink c.args.sink.now c.serve_lines.new.sink)
    c.args.machine.now c.serve_lines.new.machine c.serve_lines.new.owed c.args.steps.now c.serve_lines.new.steps c.args.limit c.args.batch c.serve_lines.result
    c.serve_lines.ensures.finishes c.serve_lines.ensures.stops c.serve_lines.ensures.keeps.calls.cause c.serve_lines.ensures.source c.serve_lines.ensures.keeps.sink_cause

pub returns-clause-held_disk : goal.returns-clause-held_disk
returns-clause-held_disk g c =
    session_at_disk g.M.Machine (use_of g.D.Disk c.args.disk.now c.serve_lines.new.disk) (use_of g.S.Source c.args.source.now c.serve_lines.new.source) (use_of g.K.Sink c.args.sink.now c.serve_lines.new.sink)
    c.args.machine.now c.serve_lines.new.machine c.serve_lines.new.owed c.args.steps.now c.serve_lines.new.steps c.args.limit c.args.batch c.serve_lines.result c.serve_lines.ensures.stops

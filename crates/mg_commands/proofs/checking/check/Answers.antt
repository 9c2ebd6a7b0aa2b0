use Rattle.mg_commands.specs.OpeningLemmas.{fault_may_tell, fault_tells, told_done, told_prefix, told_without, unopened_without}
use Rattle.std.proofs.Common.{rules}
use Rattle.mg_commands.proofs.checking.check.Goals as goal

pub returns-in-Ok : goal.returns-in-Ok
returns-in-Ok g c = record {
  done = λ h. told_done c.in-Ok.summary (g.D.Disk.seen c.args.disk.now) (g.K.Sink.taken c.args.sink.now) (g.K.Sink.taken c.put_summary.new.sink) c.in-Ok.ensures.tells (c.put_summary.ensures.put h);
  prefix = told_prefix c.in-Ok.summary (g.D.Disk.seen c.args.disk.now) (g.K.Sink.taken c.args.sink.now) (g.K.Sink.taken c.put_summary.new.sink) c.in-Ok.ensures.tells c.put_summary.ensures.prefix;
  writes = c.in-Ok.ensures.writes;
  without = told_without g.D.Disk g.K.Sink c.in-Ok.summary c.put_summary.result c.args.disk.now c.examined.new.disk c.args.sink.now c.put_summary.new.sink c.in-Ok.ensures.tells c.put_summary.ensures.ends;
  which = search rules;
  memory = search rules;
  disk_failed = search rules;
  sink_failed = c.put_summary.ensures.sink;
  complete = search rules;
}

pub returns-in-Err : goal.returns-in-Err
returns-in-Err g c =
    let tells = fault_tells c.in-Err.fault (g.D.Disk.seen c.args.disk.now) c.in-Err.ensures.not c.in-Err.ensures.old c.in-Err.ensures.damaged in record {
      done = search rules;
      prefix = fault_may_tell c.in-Err.fault (g.D.Disk.seen c.args.disk.now) (g.K.Sink.taken c.args.sink.now) (g.K.Sink.taken c.put_fault.new.sink) tells c.put_fault.ensures.prefix;
      writes = c.in-Err.ensures.writes;
      without = unopened_without g.D.Disk g.K.Sink c.in-Err.fault c.put_fault.result c.args.disk.now c.examined.new.disk c.args.sink.now c.put_fault.new.sink tells c.put_fault.ensures.ends
          (λ loud. c.in-Err.ensures.writes) c.put_fault.ensures.put c.put_fault.ensures.prefix;
      which = search rules;
      memory = search rules;
      disk_failed = search rules;
      sink_failed = c.put_fault.ensures.sink;
      complete = search rules;
    }

use Rattle.{mg_commands.specs.OpeningLemmas.{fault_tells, unopened_without}, std.proofs.Common.{sym, ◌∙◌}}
use Rattle.mg_show.proofs.top_call.print_text.Goals as goal

pub show_rows-requires-clause-told : goal.show_rows-requires-clause-told
show_rows-requires-clause-told g c image told = c.in-Ok.ensures.told image (sym c.in-Ok.ensures.reads.writes.same ∙ told)

pub show_rows-requires-clause-fits : goal.show_rows-requires-clause-fits
show_rows-requires-clause-fits g c image told = c.in-Ok.ensures.fits image (sym c.in-Ok.ensures.reads.writes.same ∙ told)

pub returns-in-Err-clause-without : goal.returns-in-Err-clause-without
returns-in-Err-clause-without g c =
    unopened_without g.D.Disk g.K.Sink c.in-Err.fault c.put_fault.result c.args.disk.now c.read_volume.new.disk c.args.sink.now c.put_fault.new.sink
    (fault_tells c.in-Err.fault (g.D.Disk.seen c.args.disk.now) c.in-Err.ensures.not c.in-Err.ensures.old c.in-Err.ensures.damaged) c.put_fault.ensures.ends (λ loud. c.in-Err.ensures.reads.writes) c.put_fault.ensures.put c.put_fault.ensures.prefix

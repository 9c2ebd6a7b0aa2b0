use Rattle.{mg_commands.specs.Unopened.summary_line, mg_migrate.specs.{MigratedLemmas.{blocks-now, state-now}, Version1.volume1}}
use Rattle.{mg_migrate_session.proofs.{Endings.{every_state1, migrated, told_keeps}, Faults.fault_keeps}, std.proofs.Common.{inl, refl, ⊎_elim}}
use Rattle.mg_serve.specs.declared.status.Status.TheVariants as status
use Rattle.mg_migrate_session.proofs.top_call.migrate_and_tell.Goals as goal

pub returns-in-Ok : goal.returns-in-Ok
returns-in-Ok g c =
    let d = g.D.Disk in
    let new = c.args.new.now in
    let new' = c.migrate.new.new in
    let m = c.in-Ok.ensures in
    told_keeps d g.E.Disk g.K.Sink c.put_summary.result new new' c.args.old.now c.migrate.new.old c.args.sink.now c.put_summary.new.sink m.any_moment m.stands_back m.old_reads.writes status.Done (summary_line c.in-Ok.summary) (inl refl) (c.in-Ok.summary, refl)
    (λ before is. let s = state-now d new new' before (m.made before is) in migrated d c.in-Ok.summary new new' (volume1 before) (m.told before is) s.reads s.left m.settled)
    (λ before is. let b = blocks-now d new new' before (m.made before is) in every_state1 (volume1 before) _ (λ state room. record { reads = b.reads; left = b.left }))
    (λ none. absurd (⊎_elim (λ e. cc) (λ e. cc) none)) c.put_summary.ensures.ends c.put_summary.ensures.put c.put_summary.ensures.prefix c.put_summary.ensures.sink

pub returns-in-Err : goal.returns-in-Err
returns-in-Err g c =
    let m = c.in-Err.ensures in
    fault_keeps g.D.Disk g.E.Disk g.K.Sink c.in-Err.fault c.put_fault.result c.args.new.now c.migrate.new.new c.args.old.now c.migrate.new.old c.args.sink.now c.put_fault.new.sink m.told m.any_moment m.untouched m.stands_back m.closed m.old_reads.writes
    m.old_reads.calls.cause m.new_calls.cause c.put_fault.ensures.ends c.put_fault.ensures.put c.put_fault.ensures.prefix c.put_fault.ensures.quiet c.put_fault.ensures.sink

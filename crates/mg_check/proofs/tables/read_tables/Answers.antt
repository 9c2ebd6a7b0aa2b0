use Rattle.mg_check.{proofs.RunsAtHand.handed-on, specs.ReadRuns.{only_by, only_then, same_contents, still_read}}
use Rattle.{mg_model.specs.{Abbreviations.account_row_bytes, Limits.account_limit, Spelling.account_read}, mg_rules.specs.NoRowLemmas.with-gap}
use Rattle.mg_rules.specs.{NoRowLemmas.{without-accounts, without-counters, without-objects, without-threads, without-zeros}, TableRows.AreLive}
use Rattle.{mg_rules.specs.{TableTold.{HasRest, IsTable}, ToldLemmas.tables-told}, std.proofs.Common.{rules, subst, sym, ◌∙◌}}
use Rattle.mg_check.proofs.tables.read_tables.Goals as goal

pub read_all-requires-clause-can : goal.read_all-requires-clause-can
read_all-requires-clause-can g c = still_read g.D.Disk (g.C.Contents.need c.args.view.now) (g.C.Contents.Fits c.args.view.now) c.args.disk.now c.read_counters.new.disk c.requires.can (only_by c.read_counters.ensures.reads)

pub read_all-requires-2-clause-can : goal.read_all-requires-2-clause-can
read_all-requires-2-clause-can g c = still_read g.D.Disk (g.C.Contents.need c.args.view.now) (g.C.Contents.Fits c.args.view.now) c.args.disk.now c.read_all.new.disk c.requires.can (only_then g.D.Disk c.args.disk.now c.read_counters.new.disk c.read_all.new.disk (only_by c.read_counters.ensures.reads) (only_by c.read_all.ensures.reads))

pub read_places-requires-clause-can : goal.read_places-requires-clause-can
read_places-requires-clause-can g c = still_read g.D.Disk (g.C.Contents.need c.args.view.now) (g.C.Contents.Fits c.args.view.now) c.args.disk.now c.read_all-2.new.disk c.requires.can (only_then g.D.Disk c.args.disk.now c.read_all.new.disk c.read_all-2.new.disk (only_then g.D.Disk c.args.disk.now c.read_counters.new.disk c.read_all.new.disk (only_by c.read_counters.ensures.reads) (only_by c.read_all.ensures.reads)) (only_by c.read_all-2.ensures.reads))

pub read_table-requires-clause-can : goal.read_table-requires-clause-can
read_table-requires-clause-can g c = still_read g.D.Disk (g.C.Contents.need c.args.view.now) (g.C.Contents.Fits c.args.view.now) c.args.disk.now c.read_places.new.disk c.requires.can (only_then g.D.Disk c.args.disk.now c.read_all-2.new.disk c.read_places.new.disk (only_then g.D.Disk c.args.disk.now c.read_all.new.disk c.read_all-2.new.disk (only_then g.D.Disk c.args.disk.now c.read_counters.new.disk c.read_all.new.disk (only_by c.read_counters.ensures.reads) (only_by c.read_all.ensures.reads)) (only_by c.read_all-2.ensures.reads)) (only_by c.read_places.ensures.reads))

pub returns-in_err-globals-clause-damaged : goal.returns-in_err-globals-clause-damaged
returns-in_err-globals-clause-damaged g c is r told = search (rules, handed-on, without-counters)

pub returns-in_err-placed-clause-damaged : goal.returns-in_err-placed-clause-damaged
returns-in_err-placed-clause-damaged g c is r told = search (rules, handed-on, without-accounts, same_contents)

pub returns-in_err-accounts-clause-damaged : goal.returns-in_err-accounts-clause-damaged
returns-in_err-accounts-clause-damaged g c is r told =
    let damaged = handed-on c.without_places.result c.from_residual-in_err-accounts.result _ _ c.in_err-accounts.was c.from_residual-in_err-accounts.ensures.1 is in
    with-gap c.args.params.now r c.deref.result.now (subst (AreLive (λ i. account_read (account_row_bytes r i)) account_limit) (sym c.deref.ensures.value) (c.in_ok-placed.ensures.told r (same_contents g.D.Disk (g.C.Contents.of c.args.view.now) c.args.disk.now c.read_counters.new.disk (only_by c.read_counters.ensures.reads) ∙ told))) (c.without_places.ensures.damaged damaged)

pub returns-in_err-threads-clause-damaged : goal.returns-in_err-threads-clause-damaged
returns-in_err-threads-clause-damaged g c is r told =
    let damaged = handed-on c.read_all-2.result c.from_residual-in_err-threads.result _ _ c.in_err-threads.was c.from_residual-in_err-threads.ensures.1 is in
    without-threads c.args.params.now r (c.read_all-2.ensures.damaged damaged r (same_contents g.D.Disk (g.C.Contents.of c.args.view.now) c.args.disk.now c.read_all.new.disk (only_then g.D.Disk c.args.disk.now c.read_counters.new.disk c.read_all.new.disk (only_by c.read_counters.ensures.reads) (only_by c.read_all.ensures.reads)) ∙ told))

pub returns-in_err-objects-clause-damaged : goal.returns-in_err-objects-clause-damaged
returns-in_err-objects-clause-damaged g c is r told =
    let damaged = handed-on c.read_places.result c.from_residual-in_err-objects.result _ _ c.in_err-objects.was c.from_residual-in_err-objects.ensures.1 is in
    without-objects c.args.params.now r (c.read_places.ensures.damaged damaged r (same_contents g.D.Disk (g.C.Contents.of c.args.view.now) c.args.disk.now c.read_all-2.new.disk (only_then g.D.Disk c.args.disk.now c.read_all.new.disk c.read_all-2.new.disk (only_then g.D.Disk c.args.disk.now c.read_counters.new.disk c.read_all.new.disk (only_by c.read_counters.ensures.reads) (only_by c.read_all.ensures.reads)) (only_by c.read_all-2.ensures.reads)) ∙ told))

pub returns-in_err-table-clause-damaged : goal.returns-in_err-table-clause-damaged
returns-in_err-table-clause-damaged g c is r told =
    let damaged = handed-on c.read_table.result c.from_residual-in_err-table.result _ _ c.in_err-table.was c.from_residual-in_err-table.ensures.1 is in
    without-zeros c.args.params.now r (subst (HasRest r) c.frames-frames.ensures.value (c.read_table.ensures.damaged damaged r (same_contents g.D.Disk (g.C.Contents.of c.args.view.now) c.args.disk.now c.read_places.new.disk (only_then g.D.Disk c.args.disk.now c.read_all-2.new.disk c.read_places.new.disk (only_then g.D.Disk c.args.disk.now c.read_all.new.disk c.read_all-2.new.disk (only_then g.D.Disk c.args.disk.now c.read_counters.new.disk c.read_all.new.disk (only_by c.read_counters.ensures.reads) (only_by c.read_all.ensures.reads)) (only_by c.read_all-2.ensures.reads)) (only_by c.read_places.ensures.reads)) ∙ told)))

pub returns-clause-told : goal.returns-clause-told
returns-clause-told g c r told =
    tables-told _ r (c.in_ok-globals.ensures.told r told)
    (subst (AreLive (λ i. account_read (account_row_bytes r i)) account_limit) (sym (c.in_ok-accounts.ensures.same ∙ c.deref.ensures.value)) (c.in_ok-placed.ensures.told r (same_contents g.D.Disk (g.C.Contents.of c.args.view.now) c.args.disk.now c.read_counters.new.disk (only_by c.read_counters.ensures.reads) ∙ told)))
    (c.in_ok-threads.ensures.told r (same_contents g.D.Disk (g.C.Contents.of c.args.view.now) c.args.disk.now c.read_all.new.disk (only_then g.D.Disk c.args.disk.now c.read_counters.new.disk c.read_all.new.disk (only_by c.read_counters.ensures.reads) (only_by c.read_all.ensures.reads)) ∙ told))
    (c.in_ok-objects.ensures.told r (same_contents g.D.Disk (g.C.Contents.of c.args.view.now) c.args.disk.now c.read_all-2.new.disk (only_then g.D.Disk c.args.disk.now c.read_all.new.disk c.read_all-2.new.disk (only_then g.D.Disk c.args.disk.now c.read_counters.new.disk c.read_all.new.disk (only_by c.read_counters.ensures.reads) (only_by c.read_all.ensures.reads)) (only_by c.read_all-2.ensures.reads)) ∙ told))
    (subst (λ n. IsTable r n c.in_ok-table.table.items) c.frames-frames.ensures.value (c.in_ok-table.ensures.told r (same_contents g.D.Disk (g.C.Contents.of c.args.view.now) c.args.disk.now c.read_places.new.disk (only_then g.D.Disk c.args.disk.now c.read_all-2.new.disk c.read_places.new.disk (only_then g.D.Disk c.args.disk.now c.read_all.new.disk c.read_all-2.new.disk (only_then g.D.Disk c.args.disk.now c.read_counters.new.disk c.read_all.new.disk (only_by c.read_counters.ensures.reads) (only_by c.read_all.ensures.reads)) (only_by c.read_all-2.ensures.reads)) (only_by c.read_places.ensures.reads)) ∙ told)))

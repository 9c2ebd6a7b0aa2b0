use Rattle.{mg_disk.specs.Runs.{left_still, left_still_then}, mg_layout.specs.MayFormat.IsNoState, mg_model.specs.Volume.volume}
use Rattle.{mg_volume.{proofs.Handed.{calls_as, calls_then, same_fault}, specs.Opening.IsOpened}, std.proofs.Common.{◌≡◌, subst, sym, ◌∙◌}}
use Rattle.std.proofs.lemmas.Result.{IfOk-weaker}
use Rattle.mg_volume.proofs.volume.Volume.open.Goals as goal

pub open_rows-requires-clause-told : goal.open_rows-requires-clause-told
open_rows-requires-clause-told g c image told = c.in-Ok.ensures.told image (sym c.in-Ok.ensures.reads.writes.same ∙ told)

pub open_rows-requires-clause-fits : goal.open_rows-requires-clause-fits
open_rows-requires-clause-fits g c image told = c.in-Ok.ensures.fits image (sym c.in-Ok.ensures.reads.writes.same ∙ told)

pub returns-clause-any_moment : goal.returns-clause-any_moment
returns-clause-any_moment g c image told =
    let disk = c.args.disk.now in
    let reads = c.in-Ok.ensures.reads.writes in
    left_still_then g.D.Disk disk c.read_volume.new.disk c.open_rows.new.disk (λ i. volume i ≡ volume image) (g.met.D.Disk.now_has_been disk) reads.stops (c.open_rows.ensures.any_moment image (reads.same ∙ told))

pub returns-clause-untouched : goal.returns-clause-untouched
returns-clause-untouched g c image told no_state = absurd (subst IsNoState (c.in-Ok.ensures.told image told).is no_state)

pub returns-clause-opened : goal.returns-clause-opened
returns-clause-opened g c = IfOk-weaker c.open_rows.result _ _ (λ v is. subst (λ told. IsOpened g.D.Disk told v c.open_rows.new.disk) c.in-Ok.ensures.reads.writes.same is) c.open_rows.ensures.opened

pub returns-in-Err-clause-any_moment : goal.returns-in-Err-clause-any_moment
returns-in-Err-clause-any_moment g c image told =
    left_still g.D.Disk c.args.disk.now c.read_volume.new.disk (λ i. volume i ≡ volume image) (g.met.D.Disk.now_has_been c.args.disk.now) c.in-Err.ensures.reads.writes.stops

pub returns-in-Err-clause-not : goal.returns-in-Err-clause-not
returns-in-Err-clause-not g c e = record { is = c.in-Err.ensures.not (same_fault c.in-Err.fault _ e); untouched = c.in-Err.ensures.reads.writes }

pub returns-in-Err-clause-old : goal.returns-in-Err-clause-old
returns-in-Err-clause-old g c e = record { is = c.in-Err.ensures.old (same_fault c.in-Err.fault _ e); untouched = c.in-Err.ensures.reads.writes }

pub returns-in-Err-clause-damaged : goal.returns-in-Err-clause-damaged
returns-in-Err-clause-damaged g c e = record { is = c.in-Err.ensures.damaged (same_fault c.in-Err.fault _ e); untouched = c.in-Err.ensures.reads.writes }

pub returns-in-Err-clause-calls : goal.returns-in-Err-clause-calls
returns-in-Err-clause-calls g c = calls_as g.D.Disk c.args.disk.now c.read_volume.new.disk c.in-Err.fault c.in-Err.ensures.reads.calls

pub returns-clause-not : goal.returns-clause-not
returns-clause-not g c e = absurd (c.open_rows.ensures.judges_nothing.no_not e)

pub returns-clause-old : goal.returns-clause-old
returns-clause-old g c e = absurd (c.open_rows.ensures.judges_nothing.no_old e)

pub returns-clause-damaged : goal.returns-clause-damaged
returns-clause-damaged g c e = absurd (c.open_rows.ensures.judges_nothing.no_damaged e)

pub returns-clause-calls : goal.returns-clause-calls
returns-clause-calls g c = calls_then g.D.Disk c.args.disk.now c.read_volume.new.disk c.open_rows.new.disk _ _ c.in-Ok.ensures.reads.calls c.open_rows.ensures.calls

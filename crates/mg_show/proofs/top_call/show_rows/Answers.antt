use Rattle.{mg_check.specs.Reads.CanRead, mg_journal.specs.Looked.{Placed, Fits}, mg_model.specs.Limits.thread_limit}
use Rattle.{mg_rules.specs.RowsRead.ArePlaced, mg_serve.specs.declared.status.Status.Status, mg_show.proofs.RowsShown.{not_shown, rows_shown}}
use Rattle.{mg_show.{proofs.TextTold.state-told, specs.{Commands.text_of, Putting.ShowsRows, Shown.state_shown}}, std.proofs.Common.{ap, arith}}
use Rattle.std.proofs.Common.{subst, sym, ◌∙◌}
use Rattle.mg_show.proofs.top_call.show_rows.Goals as goal

pub put_text-requires-clause-placed : goal.put_text-requires-clause-placed
put_text-requires-clause-placed g c = subst (ArePlaced thread_limit) (sym c.in-Some.ensures.threads) c.requires.kept.held.threads

pub put_text-requires-clause-can : goal.put_text-requires-clause-can
put_text-requires-clause-can g c =
    let total = c.requires.total in
    let within = c.requires.within_disk in
    subst (λ (view : Placed). CanRead g.D.Disk view.total (Fits view) c.args.disk.now) (sym c.in-Some.ensures.view) (record { room = omega arith; fits = c.requires.fits })

pub returns-in-Err : goal.returns-in-Err
returns-in-Err g c = not_shown g.D.Disk g.K.Sink c.args.text c.args.rows c.args.disk.now c.args.sink.now c.requires.told (g.met.D.Disk.now_has_been c.args.disk.now)

pub returns-in-None : goal.returns-in-None
returns-in-None g c = not_shown g.D.Disk g.K.Sink c.args.text c.args.rows c.args.disk.now c.args.sink.now c.requires.told (g.met.D.Disk.now_has_been c.args.disk.now)

pub returns-in-Some-room_of : goal.returns-in-Some-room_of
returns-in-Some-room_of g c =
    let shown = c.in-Some.shown in
    let is = c.in-Some.ensures in
    subst (λ (status : Status). ShowsRows g.D.Disk g.K.Sink c.args.text status c.args.disk.now c.put_text.new.disk c.args.sink.now c.finish.new.sink)
    (sym c.finish.ensures.status)
    (rows_shown g.D.Disk g.K.Sink c.args.text c.args.rows c.args.disk.now c.args.sink.now c.requires.told shown.view.total
    (λ r. text_of c.args.text (state_shown shown r)) c.put_text.new.disk c.put_text.new.sink c.finish.new.sink c.in-Ok.out c.put_text.new.out
    c.finish.new.self (ap (λ (view : Placed). view.total) is.view ∙ c.requires.total)
    (λ r. ap (text_of c.args.text) (state-told c.args.rows r shown is.params is.counters is.threads is.objects is.accounts is.frames
    c.requires.kept.held.entries)) c.in-Ok.ensures c.put_text.ensures c.finish.ensures.puts c.finish.ensures.empty)

pub returns : goal.returns
returns g c = not_shown g.D.Disk g.K.Sink c.args.text c.args.rows c.args.disk.now c.args.sink.now c.requires.told (g.met.D.Disk.now_has_been c.args.disk.now)

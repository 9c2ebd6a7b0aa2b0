use Rattle.{mg_check.specs.ReadRuns.{only_by, still_read, told_contents}, mg_disk.specs.Reads.OnlyRead, mg_model.specs.Layout.total_blocks}
use Rattle.{mg_model.specs.Replay.replay, mg_rules.specs.SettledVolumeLemmas.{settled-damaged, settled-short, settled-tells, some_in}}
use Rattle.std.proofs.Common.{◌≡◌, ap, sym, ◌∙◌, arith}
use Rattle.mg_check.proofs.opening.read_through_view.Goals as goal

pub returns-then-blocks-total-clause-damaged : goal.returns-then-blocks-total-clause-damaged
returns-then-blocks-total-clause-damaged g c is image told =
    let counted = g.met.D.Disk.seen_count c.args.disk.now image told in
    let needed = c.of-total.ensures.total ∙ ap total_blocks c.frames.ensures.value in
    settled-short c.args.params.now image (omega arith)

pub read_rows-requires-clause-can : goal.read_rows-requires-clause-can
read_rows-requires-clause-can g c = grind (arith, still_read)

pub returns-in-Ok-clause-told : goal.returns-in-Ok-clause-told
returns-in-Ok-clause-told g c image told =
    let p = c.args.params.now in
    let view = c.in_ok-view.view in
    let counted = g.met.D.Disk.seen_count c.args.disk.now image told in
    let needed : c.of-total.result.total ≡ total_blocks p.frames = c.of-total.ensures.total ∙ ap total_blocks c.frames.ensures.value in
    let r = some_in (replay image c.of-total.result.total) (c.in_ok-view.ensures.replayed image told) in
    let reads : OnlyRead g.D.Disk c.args.disk.now c.look.new.disk = only_by c.look.ensures.reads in
    let same = told_contents g.D.Disk (λ i. replay i view.total) c.args.disk.now c.look.new.disk image r.0 reads told (ap (replay image) c.in_ok-view.ensures.total ∙ r.1) in
    settled-tells p image c.in-Ok.rows r.0 (omega arith) (ap (replay image) (sym needed) ∙ r.1) (c.in-Ok.ensures.told r.0 same)

pub returns-in-Err-clause-damaged : goal.returns-in-Err-clause-damaged
returns-in-Err-clause-damaged g c is image told = grind (arith, some_in, told_contents, settled-damaged)

use Rattle.mg_check.{proofs.RunsAtHand.{handed-on, here}, specs.{ReadRuns.{caused, only_of, only_then, same_contents, still_read}, Reads.contents}}
use Rattle.{mg_disk.specs.Disk.Image, mg_model.specs.Layout.table_blocks, mg_rules.specs.{EntryLemmas.{table-rest, table-told}, TableTold.entry_in}}
use Rattle.{mg_rules.specs.TableTold.table_entry, std.proofs.Common.{◌≡◌, Some, ◌*◌, ◌==◌, ap, sym, ◌∙◌, arith}}
use Rattle.mg_check.proofs.table.read_table.Goals as goal

pub turn_to-requires-clause-can : goal.turn_to-requires-clause-can
turn_to-requires-clause-can g c = still_read g.D.Disk (g.C.Contents.need c.args.view.now) (g.C.Contents.Fits c.args.view.now) c.args.disk.now c.loop-f.disk c.requires.can c.loop-f.invariant.reads

pub turn_to-requires-clause-there : goal.turn_to-requires-clause-there
turn_to-requires-clause-there g c r told = c.loop-f.invariant.there r (sym (same_contents g.D.Disk (g.C.Contents.of c.args.view.now) c.args.disk.now c.loop-f.disk c.loop-f.invariant.reads) ∙ told)

pub returns-in_err-take-clause-damaged : goal.returns-in_err-take-clause-damaged
returns-in_err-take-clause-damaged g c is r told =
    let damaged = handed-on c.take.result c.from_residual-in_err-take.result _ _ c.in_err-take.was c.from_residual-in_err-take.ensures.1 is in
    let there = here c.turn_to.new.self.first c.turn_to.new.self.count c.turn_to.new.self.blocks r _ c.block.result.now (c.in-Ok.ensures.there r (same_contents g.D.Disk (g.C.Contents.of c.args.view.now) c.args.disk.now c.loop-f.disk c.loop-f.invariant.reads ∙ told)) c.in-Ok.ensures.among c.block.ensures.block in
    table-rest r c.args.frames (512 * table_blocks c.args.frames) (omega arith) c.loop-f.f (c.take.ensures.behind damaged) (omega arith)
    (ap (λ block. entry_in block c.loop-f.f == 0) (sym there) ∙ c.take.ensures.damaged damaged)

pub returns-in_err-take-clause-reads : goal.returns-in_err-take-clause-reads
returns-in_err-take-clause-reads g c =
    caused g.D.Disk _ _ _ (only_then g.D.Disk c.args.disk.now c.loop-f.disk c.turn_to.new.disk c.loop-f.invariant.reads (only_of c.turn_to.ensures.reads))
    (λ is. absurd (c.take.ensures.no_disk (handed-on c.take.result c.from_residual-in_err-take.result _ _ c.in_err-take.was c.from_residual-in_err-take.ensures.1 is)))

pub loop-f-preserved : goal.loop-f-preserved
loop-f-preserved g c =
    let f = c.loop-f.f in
    let at_hand = λ (r : Image) (told : contents g.D.Disk (g.C.Contents.of c.args.view.now) c.args.disk.now ≡ Some r). here c.turn_to.new.self.first c.turn_to.new.self.count c.turn_to.new.self.blocks r _ c.block.result.now (c.in-Ok.ensures.there r (same_contents g.D.Disk (g.C.Contents.of c.args.view.now) c.args.disk.now c.loop-f.disk c.loop-f.invariant.reads ∙ told)) c.in-Ok.ensures.among c.block.ensures.block in
    record {
      reads = only_then g.D.Disk c.args.disk.now c.loop-f.disk c.turn_to.new.disk c.loop-f.invariant.reads (only_of c.turn_to.ensures.reads);
      there = λ r told. c.in-Ok.ensures.there r (same_contents g.D.Disk (g.C.Contents.of c.args.view.now) c.args.disk.now c.loop-f.disk c.loop-f.invariant.reads ∙ told);
      few = c.in-Ok.ensures.room;
      told = λ r told. c.in_ok-take.ensures.told (table_entry r) (ap (λ block. entry_in block f) (sym (at_hand r told))) (c.loop-f.invariant.told r told);
      long = c.in_ok-take.ensures.long c.loop-f.invariant.long;
    }

pub returns-clause-told : goal.returns-clause-told
returns-clause-told g c r told =
    let at_end : c.loop-f.f ≡ 512 * table_blocks c.args.frames = let past = c.loop-f-test.false in let end = c.loop-f.auto.f-end in omega arith in
    table-told r c.args.frames c.loop-f.f at_end c.loop-f.table.items (c.loop-f.invariant.told r told)

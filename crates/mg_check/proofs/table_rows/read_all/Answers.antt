use Rattle.mg_check.{proofs.RunsAtHand.{handed-on, here, none_yet}, specs.ReadRuns.{caused, only_none, only_of, only_then, same_contents, still_read}}
use Rattle.{mg_check.specs.Reads.contents, mg_disk.specs.Disk.Image, mg_model.specs.Replay.block_of, mg_rules.specs.LiveRowLemmas.live_none}
use Rattle.{mg_rules.specs.{LiveRowLemmas.not_spelled, PlacedLemmas.{kept_none, placed_all, placed_none}, TableRows.AreLive}, std.proofs.Common.◌≡◌}
use Rattle.std.proofs.Common.{ℕ, Some, ap, subst, sym, ◌∙◌, arith}
use Rattle.mg_check.proofs.table_rows.read_all.Goals as goal

pub turn_to-requires-clause-can : goal.turn_to-requires-clause-can
turn_to-requires-clause-can g c = still_read g.D.Disk (g.C.Contents.need c.args.view.now) (g.C.Contents.Fits c.args.view.now) c.args.disk.now c.loop-i.disk c.requires.can c.loop-i.invariant.reads

pub turn_to-requires-clause-there : goal.turn_to-requires-clause-there
turn_to-requires-clause-there g c r told = c.loop-i.invariant.there r (sym (same_contents g.D.Disk (g.C.Contents.of c.args.view.now) c.args.disk.now c.loop-i.disk c.loop-i.invariant.reads) ∙ told)

pub returns-in_err-take-clause-damaged : goal.returns-in_err-take-clause-damaged
returns-in_err-take-clause-damaged g c is r told =
    let damaged = handed-on c.take.result c.from_residual-in_err-take.result _ _ c.in_err-take.was c.from_residual-in_err-take.ensures.1 is in
    let i = c.loop-i.i in
    let there = here c.turn_to.new.self.first c.turn_to.new.self.count c.turn_to.new.self.blocks r _ c.block.result.now (c.in-Ok.ensures.there r (same_contents g.D.Disk (g.C.Contents.of c.args.view.now) c.args.disk.now c.loop-i.disk c.loop-i.invariant.reads ∙ told)) c.in-Ok.ensures.among c.block.ensures.block ∙ ap (block_of r) c.block_at-block.ensures.place in
    not_spelled (λ k. g.R.TableRow.spelled (block_of r (g.R.TableRow.block_at k)) k) g.R.TableRow.ROWS i
    (ap (λ block. g.R.TableRow.spelled block i) (sym there) ∙ c.take.ensures.damaged damaged) (omega arith)

pub returns-in_err-take-clause-reads : goal.returns-in_err-take-clause-reads
returns-in_err-take-clause-reads g c =
    caused g.D.Disk _ _ _ (only_then g.D.Disk c.args.disk.now c.loop-i.disk c.turn_to.new.disk c.loop-i.invariant.reads (only_of c.turn_to.ensures.reads))
    (λ is. absurd (c.take.ensures.no_disk (handed-on c.take.result c.from_residual-in_err-take.result _ _ c.in_err-take.was c.from_residual-in_err-take.ensures.1 is)))

pub loop-i-preserved : goal.loop-i-preserved
loop-i-preserved g c =
    let i = c.loop-i.i in
    let at_hand = λ (r : Image) (told : contents g.D.Disk (g.C.Contents.of c.args.view.now) c.args.disk.now ≡ Some r). here c.turn_to.new.self.first c.turn_to.new.self.count c.turn_to.new.self.blocks r _ c.block.result.now (c.in-Ok.ensures.there r (same_contents g.D.Disk (g.C.Contents.of c.args.view.now) c.args.disk.now c.loop-i.disk c.loop-i.invariant.reads ∙ told)) c.in-Ok.ensures.among c.block.ensures.block ∙ ap (block_of r) c.block_at-block.ensures.place in
    record {
      reads = only_then g.D.Disk c.args.disk.now c.loop-i.disk c.turn_to.new.disk c.loop-i.invariant.reads (only_of c.turn_to.ensures.reads);
      there = λ r told. c.in-Ok.ensures.there r (same_contents g.D.Disk (g.C.Contents.of c.args.view.now) c.args.disk.now c.loop-i.disk c.loop-i.invariant.reads ∙ told);
      few = c.in-Ok.ensures.room;
      told = λ r told. c.in_ok-take.ensures.taken.told (λ k. g.R.TableRow.spelled (block_of r (g.R.TableRow.block_at k)) k) (ap (λ block. g.R.TableRow.spelled block i) (sym (at_hand r told))) (c.loop-i.invariant.told r told);
      placed = c.in_ok-take.ensures.taken.placed c.loop-i.invariant.placed;
      kept = c.in_ok-take.ensures.taken.kept c.loop-i.invariant.kept;
      room = let before = c.loop-i.invariant.room in let more = c.take.ensures.keeps_capacity in omega arith;
    }

pub loop-i-init : goal.loop-i-init
loop-i-init g c = grind (arith, only_none, none_yet, live_none, placed_none, kept_none)

pub returns-clause-told : goal.returns-clause-told
returns-clause-told g c r told =
    let all : c.loop-i.i ≡ g.R.TableRow.ROWS = let past = c.loop-i-test.false in let end = c.loop-i.auto.i-end in omega arith in
    let P : ℕ → Type 0 = λ n. AreLive (λ k. g.R.TableRow.spelled (block_of r (g.R.TableRow.block_at k)) k) n c.loop-i.rows.items in
    subst P all (c.loop-i.invariant.told r told)

pub returns-clause-placed : goal.returns-clause-placed
returns-clause-placed g c = grind (arith, placed_all)

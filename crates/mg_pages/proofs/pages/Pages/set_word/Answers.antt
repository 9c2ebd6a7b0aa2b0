use Rattle.{mg_model.specs.Layout.first_frame, mg_pages.proofs.{Counted.{keeps-alike, reads-alike, served}, Opened.stands-store}}
use Rattle.{mg_pages.{proofs.WordStored.{serves-stored, sound-stored, stored}, specs.Meaning.staged_of}, std.proofs.Common.{arith, length}}
use Rattle.mg_pages.proofs.pages.Pages.set_word.Goals as goal

pub store_word-requires-clause-stands : goal.store_word-requires-clause-stands
store_word-requires-clause-stands g c = stands-store g.D.Disk c.args.disk.now c.args.self.now c.requires.stands

pub invariant_of-self : goal.invariant_of-self
unfolding staged_of
invariant_of-self g c =
    let p = c.args.self.now in
    let b = c.store_word.new.blocks in
    record { sound = rw (c.store_word.ensures.looks.keeps 0).store (sound-stored (g.D.Disk.seen c.args.disk.now) p.blocks.store p.blocks.kept c.args.page c.args.index c.args.value p.frames c.store_word.new.frames p.blocks.writes b.writes c.requires.page (omega arith) c.in-Ok.ensures.stored p.sound) }

pub invariant_of-self-in-Err : goal.invariant_of-self-in-Err
invariant_of-self-in-Err g c = let failed = c.in-Err.ensures.failed in record { sound = rw ((c.store_word.ensures.looks.keeps 0).store, failed.0, failed.1) c.args.self.now.sound }

pub returns-in-Ok-clause-sets : goal.returns-in-Ok-clause-sets
returns-in-Ok-clause-sets g c image told =
    let p = c.args.self.now in
    (stored (g.D.Disk.seen c.args.disk.now) p _ c.args.page c.args.index c.args.value c.requires.page (c.store_word.ensures.looks.keeps (first_frame (length p.frames))) c.in-Ok.ensures.stored).sets image told (c.requires.stands.fits image told)

pub returns-in-Ok-clause-serves : goal.returns-in-Ok-clause-serves
returns-in-Ok-clause-serves g c =
    let p = c.args.self.now in
    serves-stored g.D.Disk c.args.disk.now c.store_word.new.disk c.store_word.result _ p _ c.args.page c.args.index c.args.value c.requires.page c.in-Ok.ensures.stored c.store_word.ensures.looks tt c.requires.stands

pub returns-in-Err-clause-failed : goal.returns-in-Err-clause-failed
returns-in-Err-clause-failed g c = let failed = c.in-Err.ensures.failed in keeps-alike c.args.self.now _ (c.store_word.ensures.looks.keeps 0).store failed.1 failed.0

pub returns-in-Err-clause-serves : goal.returns-in-Err-clause-serves
returns-in-Err-clause-serves g c =
    let p = c.args.self.now in
    let e = c.store_word.ensures in
    let d = c.store_word.new.disk in
    let failed = c.in-Err.ensures.failed in
    served c.args.page g.D.Disk p _ c.args.disk.now d _
    (reads-alike p _ (e.looks.keeps 0).store failed.1 failed.0 g.D.Disk c.args.disk.now d c.store_word.result _ e.looks c.in-Err.ensures.looks.reads.calls.cause c.requires.stands)

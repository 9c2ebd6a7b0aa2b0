use Rattle.mg_pages.{proofs.{Counted.reads-alike, Opened.{held-kept, stands-store}}, specs.Meaning.{coming, frame_count, table_in}}
use Rattle.std.proofs.Common.{refl}
use Rattle.mg_pages.proofs.pages.Pages.page_word.Goals as goal

pub page_word-requires-clause-stands : goal.page_word-requires-clause-stands
page_word-requires-clause-stands g c = stands-store g.D.Disk c.args.disk.now c.args.self.now c.requires.stands

pub invariant_of-self : goal.invariant_of-self
invariant_of-self g c = record { sound = rw ((c.page_word.ensures.looks.keeps 0).store, c.page_word.ensures.staged) c.args.self.now.sound }

pub invariant_of-self-in-Err : goal.invariant_of-self-in-Err
invariant_of-self-in-Err g c = record { sound = rw ((c.page_word.ensures.looks.keeps 0).store, c.page_word.ensures.staged) c.args.self.now.sound }

pub returns-in-Ok-clause-word : goal.returns-in-Ok-clause-word
unfolding coming frame_count table_in
returns-in-Ok-clause-word g c image told = c.in-Ok.ensures.word image told (held-kept c.args.self.now image (c.requires.stands.fits image told))

pub returns-in-Ok-clause-looks : goal.returns-in-Ok-clause-looks
returns-in-Ok-clause-looks g c =
    let e = c.page_word.ensures in
    reads-alike c.args.self.now _ (e.looks.keeps 0).store e.staged refl g.D.Disk c.args.disk.now c.page_word.new.disk c.page_word.result _ e.looks tt c.requires.stands

pub returns-in-Err-clause-looks : goal.returns-in-Err-clause-looks
returns-in-Err-clause-looks g c =
    let e = c.page_word.ensures in
    reads-alike c.args.self.now _ (e.looks.keeps 0).store e.staged refl g.D.Disk c.args.disk.now c.page_word.new.disk c.page_word.result _ e.looks c.in-Err.ensures.looks.reads.calls.cause c.requires.stands

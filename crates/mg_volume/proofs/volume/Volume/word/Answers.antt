use Rattle.{mg_disk.specs.Disk.block_at, mg_model.specs.Objects.word_at, mg_volume.proofs.PagesChange.{counted, held_same, keeps_now, same_objects}}
use Rattle.mg_volume.proofs.{PagesChange.{some_page, ticked, word_now}, StandingPages.{pages_stand, stands_same, with_pages}}
use Rattle.mg_volume.{proofs.StillStaged.{objects_wait, still_staged}, specs.{Meaning.{now_of, words_in}, RunLemmas.reads_of}}
use Rattle.{mg_volume.specs.contracts.volume.Volume.the_view, std.proofs.{Common.{◌≡◌, ◌∙◌, ap, refl}, lemmas.Result.IfOk-weaker}}
use Rattle.std.specs.{Option.ForSome, Prelude.{slice_index, ◌+◌, ◌*◌}}
use Rattle.mg_pages.specs.Meaning as pages
use Rattle.mg_volume.proofs.volume.Volume.word.Goals as goal

pub page_word-requires-clause-stands : goal.page_word-requires-clause-stands
page_word-requires-clause-stands g c = pages_stand g.D.Disk (the_view c.self.inside) c.args.disk.now (rw (← c.self.view_is) at c.requires.stands)

pub page_word-requires-clause-page : goal.page_word-requires-clause-page
page_word-requires-clause-page g c = some_page (the_view c.self.inside) c.args.page c.self.invariant.kept (rw (← c.self.view_is) at c.requires.page)

pub returns-clause-word : goal.returns-clause-word
returns-clause-word g c =
    let v = the_view c.self.inside in
    rw (← c.self.view_is)
    (IfOk-weaker c.page_word.result
    (λ word. ForSome (g.D.Disk.seen c.args.disk.now) (λ image. word ≡ slice_index (pages.page_now c.self.inside.pages image c.args.page) c.args.index))
    (λ word. ForSome (g.D.Disk.seen c.args.disk.now) (λ image. word ≡ word_at (now_of v image).objects (4096 * c.args.page + 8 * c.args.index)))
    (λ word is image told. is image told ∙ word_now v image c.args.page c.args.index c.self.invariant.kept (rw (← c.self.view_is) at c.requires.page) c.requires.index)
    c.page_word.ensures.word)

pub returns-clause-reads : goal.returns-clause-reads
unfolding words_in
returns-clause-reads g c =
    let v = the_view c.self.inside in
    let said = c.page_word.ensures.looks in
    rw (← c.self.view_is)
    (reads_of g.D.Disk v (with_pages v c.page_word.new.self) c.args.disk.now c.page_word.new.disk c.args.steps.now c.page_word.new.steps (keeps_now v c.page_word.new.self said.keeps) (same_objects v c.page_word.new.self)
    (still_staged v (with_pages v c.page_word.new.self) (λ block waits. said.keeps.each block ∙ waits))
    (stands_same g.D.Disk v c.args.disk.now (rw (← c.self.view_is) at c.requires.stands) c.page_word.new.self c.page_word.new.disk said.stands said.reads.writes.same said.keeps.shape.frames (λ image told k low. ap (λ i. block_at i k) (said.keeps.coming image)))
    said.reads.writes (counted c.page_word.result c.self.inside.pages c.page_word.new.self c.args.steps.now c.page_word.new.steps c.page_word.ensures.counts) said.reads.calls.count said.reads.calls.blocks)

pub returns-clause-objects : goal.returns-clause-objects
returns-clause-objects g c =
    let v = the_view c.self.inside in
    rw (← c.self.view_is) (objects_wait v (with_pages v c.page_word.new.self) refl (λ block waits. c.page_word.ensures.looks.keeps.each block ∙ waits))

pub returns-clause-counts : goal.returns-clause-counts
returns-clause-counts g c = ticked c.page_word.result c.self.inside.pages c.page_word.new.self c.args.steps.now c.page_word.new.steps c.page_word.ensures.counts

pub invariant_of-self : goal.invariant_of-self
invariant_of-self g c =
    let v = the_view c.self.inside in
    let kept = c.self.invariant.kept in
    record { kept = held_same v v.counters v.threads c.page_word.new.self kept kept.few_threads c.page_word.ensures.looks.keeps.shape.frames c.page_word.ensures.looks.keeps.table; paid = c.self.invariant.paid }

pub returns-clause-cause : goal.returns-clause-cause
returns-clause-cause g c = c.page_word.ensures.looks.reads.calls.cause

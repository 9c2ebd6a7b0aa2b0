use Rattle.{mg_disk.specs.Disk.block_at, mg_model.specs.Objects.word_at, mg_pages.specs.{PairLemmas.same_pairs, Pairs.words_looked_at}}
use Rattle.mg_volume.proofs.PagesChange.{counted_some, held_same, keeps_now, same_objects, some_page, ticked_some, word_now}
use Rattle.mg_volume.{proofs.{StandingPages.{pages_stand, stands_same, with_pages}, StillStaged.{objects_wait, still_staged}}, specs.Meaning.now_of}
use Rattle.{mg_volume.specs.{Meaning.words_in, RunLemmas.reads_of, contracts.volume.Volume.the_view}, std.proofs.Common.{◌+◌, ◌*◌, ◌∙◌, ap, refl}}
use Rattle.std.proofs.Common.{slice_index}
use Rattle.mg_pages.specs.Meaning as pages
use Rattle.mg_volume.proofs.volume.Volume.next_pair.Goals as goal

pub next_pair-requires-clause-stands : goal.next_pair-requires-clause-stands
next_pair-requires-clause-stands g c = pages_stand g.D.Disk (the_view c.self.inside) c.args.disk.now (rw (← c.self.view_is) at c.requires.stands)

pub next_pair-requires-clause-page : goal.next_pair-requires-clause-page
next_pair-requires-clause-page g c = some_page (the_view c.self.inside) c.args.page c.self.invariant.kept (rw (← c.self.view_is) at c.requires.page)

pub returns-clause-found : goal.returns-clause-found
returns-clause-found g c =
    let v = the_view c.self.inside in
    rw (← c.self.view_is)
    (same_pairs c.next_pair.result (g.D.Disk.seen c.args.disk.now) (λ image index. slice_index (pages.page_now c.self.inside.pages image c.args.page) index) (λ image index. word_at (now_of v image).objects (4096 * c.args.page + 8 * index))
    c.args.from c.args.count c.args.first c.requires.pairs.at_most_255 (λ image told index below. word_now v image c.args.page index c.self.invariant.kept (rw (← c.self.view_is) at c.requires.page) below)
    c.next_pair.ensures.place c.next_pair.ensures.found)

pub returns-clause-reads : goal.returns-clause-reads
unfolding words_in
returns-clause-reads g c =
    let v = the_view c.self.inside in
    let said = c.next_pair.ensures.looks in
    rw (← c.self.view_is)
    (reads_of g.D.Disk v (with_pages v c.next_pair.new.self) c.args.disk.now c.next_pair.new.disk c.args.steps.now c.next_pair.new.steps (keeps_now v c.next_pair.new.self said.keeps) (same_objects v c.next_pair.new.self)
    (still_staged v (with_pages v c.next_pair.new.self) (λ block waits. said.keeps.each block ∙ waits))
    (stands_same g.D.Disk v c.args.disk.now (rw (← c.self.view_is) at c.requires.stands) c.next_pair.new.self c.next_pair.new.disk said.stands said.reads.writes.same said.keeps.shape.frames (λ image told k low. ap (λ i. block_at i k) (said.keeps.coming image)))
    said.reads.writes (counted_some (words_looked_at c.args.from c.args.count) c.next_pair.result c.self.inside.pages c.next_pair.new.self c.args.steps.now c.next_pair.new.steps c.next_pair.ensures.counts) said.reads.calls.count said.reads.calls.blocks)

pub returns-clause-objects : goal.returns-clause-objects
returns-clause-objects g c =
    let v = the_view c.self.inside in
    rw (← c.self.view_is) (objects_wait v (with_pages v c.next_pair.new.self) refl (λ block waits. c.next_pair.ensures.looks.keeps.each block ∙ waits))

pub returns-clause-counts : goal.returns-clause-counts
returns-clause-counts g c = ticked_some (words_looked_at c.args.from c.args.count) c.next_pair.result c.self.inside.pages c.next_pair.new.self c.args.steps.now c.next_pair.new.steps c.next_pair.ensures.counts

pub invariant_of-self : goal.invariant_of-self
invariant_of-self g c =
    let v = the_view c.self.inside in
    let kept = c.self.invariant.kept in
    record { kept = held_same v v.counters v.threads c.next_pair.new.self kept kept.few_threads c.next_pair.ensures.looks.keeps.shape.frames c.next_pair.ensures.looks.keeps.table; paid = c.self.invariant.paid }

pub returns-clause-cause : goal.returns-clause-cause
returns-clause-cause g c = c.next_pair.ensures.looks.reads.calls.cause

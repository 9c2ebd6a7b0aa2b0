use Rattle.mg_volume.proofs.PagesChange.{counted, frame_free, held_again, rows_same, same_sound, set_or_same, some_page, ticked}
use Rattle.mg_volume.proofs.{StandingPages.{pages_stand, stands_same, with_pages}, StillStaged.{objects_wait, still_staged}}
use Rattle.mg_volume.specs.Meaning.{accounts_in, counters_in, has_page, is_live, objects_in, settings_in, staged_of, threads_in, total_of, words_in}
use Rattle.{mg_volume.specs.contracts.volume.Volume.the_view, std.proofs.Common.{◌∙◌, ap, inl, inr, refl, ⊎_elim}}
use Rattle.mg_volume.proofs.volume.Volume.set_word.Goals as goal

pub set_word-requires-clause-stands : goal.set_word-requires-clause-stands
set_word-requires-clause-stands g c = pages_stand g.D.Disk (the_view c.self.inside) c.args.disk.now (rw (← c.self.view_is) at c.requires.stands)

pub set_word-requires-clause-page : goal.set_word-requires-clause-page
set_word-requires-clause-page g c = some_page (the_view c.self.inside) c.args.page c.self.invariant.kept (rw (← c.self.view_is) at c.requires.page)

pub set_word-requires-clause-frame : goal.set_word-requires-clause-frame
set_word-requires-clause-frame g c = frame_free (the_view c.self.inside) c.args.page c.self.invariant.kept c.keep_rules.ensures (rw (← c.self.view_is) at c.requires.page)

pub invariant_of-self : goal.invariant_of-self
invariant_of-self g c = record {
  kept =
      let v = the_view c.self.inside in
      let has = rw (← c.self.view_is) at c.requires.page in
      held_again v v.counters v.threads c.set_word.new.self c.self.invariant.kept c.self.invariant.kept.few_threads c.set_word.ensures.serves.shape.frames
      (λ x other is. ⊎_elim (λ this. inl (ap (λ page. has_page v page) this ∙ has)) (λ before. inr before) (c.set_word.ensures.serves.binds x is));
  paid = c.self.invariant.paid;
}

pub returns-clause-sets : goal.returns-clause-sets
returns-clause-sets g c =
    let v = the_view c.self.inside in
    let said = c.set_word.ensures in
    rw (← c.self.view_is)
    (set_or_same c.set_word.result g.D.Disk c.args.disk.now v c.set_word.new.self c.args.page c.args.index c.args.value c.self.invariant.kept c.requires.index said.serves.shape.frames said.sets said.failed)

pub returns-clause-counts : goal.returns-clause-counts
returns-clause-counts g c = ticked c.set_word.result c.self.inside.pages c.set_word.new.self c.args.steps.now c.set_word.new.steps c.set_word.ensures.counts

pub returns-clause-rows : goal.returns-clause-rows
unfolding settings_in counters_in objects_in accounts_in threads_in total_of
returns-clause-rows g c =
    let v = the_view c.self.inside in
    let said = c.set_word.ensures.serves in
    rw (← c.self.view_is)
    (record {
      same = record { parts = record { settings = refl; counters = refl; accounts = refl; threads = refl }; rows = refl; total = said.shape.total };
      sound = λ image told. same_sound v c.set_word.new.self image image;
      objects = objects_wait v (with_pages v c.set_word.new.self) refl said.staged.still;
    })

pub returns-clause-serves : goal.returns-clause-serves
unfolding is_live staged_of words_in
returns-clause-serves g c =
    let v = the_view c.self.inside in
    let all = c.set_word.ensures in
    let said = all.serves in
    rw (← c.self.view_is)
    (record {
      stands = stands_same g.D.Disk v c.args.disk.now (rw (← c.self.view_is) at c.requires.stands) c.set_word.new.self c.set_word.new.disk said.stands said.reads.writes.same said.shape.frames
          (rows_same c.set_word.result g.D.Disk c.args.disk.now v c.set_word.new.self c.args.page c.args.index c.args.value all.sets all.failed);
      writes = said.reads.writes;
      live = said.shape.live;
      least = said.staged.least;
      staged = said.staged.staged;
      still = still_staged v (with_pages v c.set_word.new.self) said.staged.still;
      counted = counted c.set_word.result c.self.inside.pages c.set_word.new.self c.args.steps.now c.set_word.new.steps all.counts;
      count = said.reads.calls.count;
      blocks = said.reads.calls.blocks;
    })

use Rattle.{mg_disk.specs.{BecomesLemmas.{becomes-of, becomes-wider}, Runs.leaves_wider}, mg_journal.specs.Contents.SameContents}
use Rattle.{mg_journal.specs.ResultLemmas.on_ok_both, mg_model.specs.Volume.{Is, volume}, mg_pages.specs.Committing.HasContents}
use Rattle.mg_volume.proofs.{CommitChange.{held_now, left_volume, ready_now, stands_now}, PagesChange.{held_same, same_sound}}
use Rattle.mg_volume.{proofs.StandingPages.{pages_stand, with_pages}, specs.{Meaning.{is_live, now_of, staged_of}, Opening.IsSaved}}
use Rattle.{mg_volume.specs.contracts.volume.Volume.the_view, std.{proofs.{Common.◌∙◌, lemmas.Result.on_ok_weaker}, specs.Prelude.{◌≡◌, ◌⊎◌}}}
use Rattle.mg_pages.specs.Meaning as pages
use Rattle.mg_volume.proofs.volume.Volume.commit.Goals as goal

pub commit-requires : goal.commit-requires
unfolding is_live
commit-requires g c =
    let live = rw (← c.self.view_is) at c.requires.live in
    record { live = live; stands = pages_stand g.D.Disk (the_view c.self.inside) c.args.disk.now (rw (← c.self.view_is) at c.requires.stands) }

pub returns-clause-any_moment : goal.returns-clause-any_moment
returns-clause-any_moment g c image told =
    let v = the_view c.self.inside in
    let stands = rw (← c.self.view_is) at c.requires.stands in
    let sound = rw (← c.self.view_is) at c.requires.sound in
    rw (← c.self.view_is)
    (leaves_wider g.D.Disk c.args.disk.now c.commit.new.disk
    (λ left. SameContents (pages.total_of c.self.inside.pages) image left ⊎ HasContents (pages.total_of c.self.inside.pages) (pages.coming c.self.inside.pages image) left)
    (λ left. (volume left ≡ volume image) ⊎ (volume left ≡ Is (now_of v image)))
    (c.commit.ensures.any_moment image told)
    (λ left may. left_volume v image left (stands.fits image told) c.self.invariant.kept (sound image told) may))

pub returns-clause-done : goal.returns-clause-done
returns-clause-done g c =
    let v = the_view c.self.inside in
    let stands = rw (← c.self.view_is) at c.requires.stands in
    let sound = rw (← c.self.view_is) at c.requires.sound in
    let said = c.commit.ensures in
    rw (← c.self.view_is)
    (on_ok_weaker c.commit.result
    (λ all.
    becomes-wider (pages.IsCommitted v.pages) (IsSaved v (with_pages v c.commit.new.self)) (g.D.Disk.seen c.args.disk.now) (g.D.Disk.seen c.commit.new.disk)
    (held_now g.D.Disk c.args.disk.now c.commit.new.disk v c.commit.new.self stands c.self.invariant.kept sound all.0.0.stands all.0.1 said.same.total said.same.table said.same.frames) all.1)
    (on_ok_both _ _ c.commit.result (on_ok_both _ _ c.commit.result said.ready said.staged) said.done))

pub returns-clause-ready : goal.returns-clause-ready
unfolding is_live
returns-clause-ready g c =
    let v = the_view c.self.inside in
    let stands = rw (← c.self.view_is) at c.requires.stands in
    let sound = rw (← c.self.view_is) at c.requires.sound in
    let said = c.commit.ensures in
    ready_now _ _ _ c.commit.result (on_ok_both _ _ c.commit.result (on_ok_both _ _ c.commit.result said.ready said.staged) said.done)
    (λ all. record {
      live = all.0.0.live;
      stands = stands_now g.D.Disk c.args.disk.now c.commit.new.disk v c.commit.new.self stands c.self.invariant.kept sound all.0.0.stands all.0.1 said.same.total said.same.table said.same.frames all.1;
      sound = λ image told.
          let from = becomes-of (pages.IsCommitted v.pages) (g.D.Disk.seen c.args.disk.now) (g.D.Disk.seen c.commit.new.disk) image all.1 told in
          same_sound v c.commit.new.self from.0 image ∙ sound from.0 from.1;
    })
    said.dead

pub invariant_of-self : goal.invariant_of-self
invariant_of-self g c =
    let v = the_view c.self.inside in
    let kept = c.self.invariant.kept in
    record { kept = held_same v v.counters v.threads c.commit.new.self kept kept.few_threads c.commit.ensures.same.frames c.commit.ensures.same.table; paid = c.self.invariant.paid }

pub returns-clause-staged : goal.returns-clause-staged
unfolding staged_of
returns-clause-staged g c = c.commit.ensures.staged

pub returns-clause-calls : goal.returns-clause-calls
returns-clause-calls g c = c.commit.ensures.calls

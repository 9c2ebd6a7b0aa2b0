use Rattle.{mg_disk.specs.{BecomesLemmas.becomes-wider, Runs.leaves_wider}, mg_journal.specs.{Contents.SameContents, ResultLemmas.on_ok_both}}
use Rattle.{mg_model.specs.Layout.first_frame, mg_pages.proofs.Committed.{has-coming, live-ok, old-or-coming, stands-then, taken}}
use Rattle.mg_pages.{proofs.Opened.stands-store, specs.{Committing.HasContents, Meaning.{IsCommitted, coming, is_live, staged_of, total_of}}}
use Rattle.std.{proofs.{Common.{◌≡◌, ◌∙◌, List, ap, arith, length, refl, ℕ}, lemmas.Result.on_ok_weaker}, specs.Prelude.◌⊎◌}
use Rattle.mg_journal.specs.Standing as journal
use Rattle.mg_pages.proofs.pages.Pages.commit.Goals as goal

pub commit-requires-clause-ready : goal.commit-requires-clause-ready
unfolding is_live
commit-requires-clause-ready g c = record { live = c.requires.live; stands = stands-store g.D.Disk c.args.disk.now c.args.self.now c.requires.stands }

pub returns-clause-any_moment : goal.returns-clause-any_moment
returns-clause-any_moment g c image told =
    let p = c.args.self.now in
    leaves_wider g.D.Disk c.args.disk.now c.commit.new.disk (journal.OldOrNew p.blocks.store.total p.blocks.writes image) (λ x. SameContents (total_of p) image x ⊎ HasContents (total_of p) (coming p image) x)
    (c.commit.ensures.any_moment image told) (λ x may. old-or-coming p image x (c.requires.stands.fits image told) may)

pub returns-clause-done : goal.returns-clause-done
unfolding staged_of
returns-clause-done g c =
    let p = c.args.self.now in
    on_ok_weaker c.commit.result
    (λ done.
    becomes-wider (journal.IsCommitted p.blocks.store.total p.blocks.writes) (IsCommitted p) (g.D.Disk.seen c.args.disk.now) (g.D.Disk.seen c.commit.new.disk)
    (λ image now told told' is. record { contents = has-coming p image now (c.requires.stands.fits image told) is.contents; late = λ some. is.late (λ none. let nothing = ap (λ (ws : List (ℕ × List ℕ)). length ws) none in absurd (omega arith)) }) done)
    c.commit.ensures.done

pub returns-clause-ready : goal.returns-clause-ready
unfolding is_live
returns-clause-ready g c =
    let p = c.args.self.now in
    let at : c.first_block.result ≡ first_frame (length p.frames) = c.first_block.ensures ∙ ap (λ n. first_frame n) c.len.ensures.count in
    on_ok_weaker c.commit.result
    (λ all.
    record {
      live = all.1.0;
      stands = stands-then p _ c.commit.ensures.total refl all.0.staged (rw at at all.0.kept) g.D.Disk c.args.disk.now c.commit.new.disk all.0.stands (g.met.D.Disk.seen_count c.commit.new.disk) c.requires.stands all.1.1;
    })
    (on_ok_both _ _ c.commit.result (taken _ _ c.commit.result c.commit.ensures.takes) (on_ok_both _ _ c.commit.result (live-ok _ c.commit.result c.commit.ensures.live) c.commit.ensures.done))

pub returns-clause-staged : goal.returns-clause-staged
unfolding staged_of
returns-clause-staged g c = on_ok_weaker c.commit.result (λ all. ap (λ (ws : List (ℕ × List ℕ)). length ws) all.staged) (taken _ _ c.commit.result c.commit.ensures.takes)

use Rattle.{mg_disk.specs.{BecomesLemmas.{becomes-of, becomes-to, becomes-wider}, Runs.leaves_wider}, mg_journal.proofs.CommitRuns.make_done}
use Rattle.mg_journal.{proofs.{CommitRuns.{make_run, some_same}, NewestSteps.{counted, holds_next, is_late}}, specs.Contents.NewContents}
use Rattle.{mg_journal.specs.{Phases.IsNext, Standing.{HoldsOpen, IsCommitted, fits_held, held_fits}}, mg_model.specs.Replay.homes_fit}
use Rattle.std.proofs.Common.{◌∙◌, ap, arith, inl, subst, sym}
use Rattle.mg_journal.proofs.store.Store.commit_segment.Goals as goal

pub returns-in_err-make_room-clause-any_moment : goal.returns-in_err-make_room-clause-any_moment
returns-in_err-make_room-clause-any_moment g c image told =
    leaves_wider g.D.Disk _ _ _ _ (c.make_room.ensures.any_moment image told) (λ x same. inl same)

pub returns-in_err-write_next-clause-any_moment : goal.returns-in_err-write_next-clause-any_moment
returns-in_err-write_next-clause-any_moment g c image told =
    make_run _ _ c.make_room.ensures.same.total c.args.writes.now g.D.Disk image _ _ _ told (c.make_room.ensures.any_moment image told) c.in_ok-make_room.ensures.contents c.write_next.ensures.any_moment

pub returns-clause-any_moment : goal.returns-clause-any_moment
returns-clause-any_moment g c image told =
    make_run _ _ c.make_room.ensures.same.total c.args.writes.now g.D.Disk image _ _ _ told (c.make_room.ensures.any_moment image told) c.in_ok-make_room.ensures.contents c.write_next.ensures.any_moment

pub returns-clause-stands : goal.returns-clause-stands
returns-clause-stands g c =
    let store = c.make_room.new.self in
    let after = c.add_segment.new.self in
    let writes = c.args.writes.now in
    let stands = c.in_ok-make_room.ensures.stands in
    let low = stands.journal in
    let high = stands.room in
    let total = c.add_segment.ensures.same.total in
    record {
      journal = omega arith;
      room = omega (arith, c.write_next.ensures.calls.blocks);
      settled = c.in_ok-write_next.ensures.settled;
      fits = λ z told.
          let b = becomes-of (IsNext store.total store.opened writes) (g.D.Disk.seen c.make_room.new.disk) (g.D.Disk.seen c.write_next.new.disk) z c.in_ok-write_next.ensures.next told in
          let holds = holds_next store.total store.opened store.table after.table writes b.0 z c.in_ok-make_room.ensures.room.some (held_fits store b.0 (stands.fits b.0 b.1)) b.2 c.add_segment.ensures.added
          (ap (λ n. homes_fit n writes) c.make_room.ensures.same.total ∙ c.requires.homes) c.requires.at_most_160_writes in
          fits_held after z (subst (λ n. HoldsOpen n after.opened after.table z) (sym total) (subst (λ n. HoldsOpen store.total n after.table z) (sym c.add_segment.ensures.opened) holds));
    }

pub returns-clause-done : goal.returns-clause-done
returns-clause-done g c =
    let store = c.args.self.now in
    let next = c.make_room.new.self in
    let after = c.add_segment.new.self in
    let writes = c.args.writes.now in
    let now = g.D.Disk.seen c.write_next.new.disk in
    let stands = returns-clause-stands g c in
    let room = c.in_ok-make_room.ensures.room in
    let place = room.some in
    let more = c.add_segment.ensures.opened in
    let wrote = c.in_ok-write_next.ensures.next in
    becomes-wider (λ a. NewContents store.total a writes) (IsCommitted store.total writes) _ now
    (λ image z told told' contents.
    let before = counted store.total store.opened store.table image (held_fits store image (c.requires.stands.fits image told)) c.make_room.ensures.at_most_8_open in
    let then = counted after.total after.opened after.table z (held_fits after z (stands.fits z told')) (omega arith) in
    record {
      contents = contents;
      late = λ any.
          is_late next.total store.opened next.opened writes image z before (then ∙ more)
          (λ some.
          let kept = c.make_room.ensures.kept some in
          let b = becomes-to (IsNext next.total next.opened writes) _ now image wrote (kept.0 ∙ told) in
          (kept.1, subst (IsNext next.total next.opened writes image) (some_same b.0 z (sym b.1 ∙ told')) b.2))
          room.first place;
    })
    (make_done _ _ c.make_room.ensures.same.total writes _ _ _ _ c.in_ok-make_room.ensures.contents wrote)

use Rattle.{mg_journal.proofs.{CommitRuns.yet_same, OpenSteps.contents_still}, std.proofs.Common.refl}
use Rattle.mg_journal.proofs.store.Store.make_room.Goals as goal

pub returns-then-self-lt-SEGMENTS-clause-any_moment : goal.returns-then-self-lt-SEGMENTS-clause-any_moment
returns-then-self-lt-SEGMENTS-clause-any_moment g c image told =
    let disk = c.args.disk.now in
    yet_same g.D.Disk c.args.self.now.total disk image (g.met.D.Disk.now_has_been disk) told c.requires.stands.settled

pub returns-then-self-lt-SEGMENTS-clause-contents : goal.returns-then-self-lt-SEGMENTS-clause-contents
returns-then-self-lt-SEGMENTS-clause-contents g c = contents_still c.args.self.now.total (g.D.Disk.seen c.args.disk.now) (g.D.Disk.seen c.args.disk.now) refl

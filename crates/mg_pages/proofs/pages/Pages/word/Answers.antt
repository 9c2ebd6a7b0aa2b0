use Rattle.{mg_pages.proofs.Counted.stands-alike, std.proofs.Common.refl}
use Rattle.mg_pages.proofs.pages.Pages.word.Goals as goal

pub returns-then-page-eq0-clause-stands : goal.returns-then-page-eq0-clause-stands
returns-then-page-eq0-clause-stands g c stands =
    let d = c.args.disk.now in
    stands-alike c.args.self.now _ refl refl refl g.D.Disk d d refl refl stands.settled (record { store = refl; kept = λ image told are. are }) stands

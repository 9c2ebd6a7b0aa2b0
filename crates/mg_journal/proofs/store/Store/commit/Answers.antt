use Rattle.{mg_disk.specs.BecomesLemmas.becomes-same, mg_journal.{proofs.CommitRuns.{empty_from, new_itself, yet}, specs.Contents.NewContents}}
use Rattle.{mg_journal.specs.Standing.IsCommitted, std.proofs.Common.{◌≡◌, [], arith, refl, sym, subst}}
use Rattle.mg_journal.proofs.store.Store.commit.Goals as goal

pub returns-then-len-eq0-clause-any_moment : goal.returns-then-len-eq0-clause-any_moment
returns-then-len-eq0-clause-any_moment g c image told =
    let disk = c.args.disk.now in
    yet g.D.Disk c.args.self.now.total c.args.writes.now disk image (g.met.D.Disk.now_has_been disk) told c.requires.ready.stands.settled

pub returns-then-len-eq0-clause-done : goal.returns-then-len-eq0-clause-done
returns-then-len-eq0-clause-done g c =
    let total = c.args.self.now.total in
    let writes = c.args.writes.now in
    let empty : writes ≡ [] = empty_from writes (omega (arith, c.len.ensures.count, c.if-len-eq0.true)) in
    becomes-same (IsCommitted total writes) _ _ refl (λ a told. record { contents = subst (λ w. NewContents total a w a) (sym empty) (new_itself total a); late = λ some. absurd (some empty) })

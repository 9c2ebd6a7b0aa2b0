use Rattle.mg_disk.specs.{BecomesLemmas.becomes-same, Disk.SameBut, PlaceLemmas.same_as, Runs.{leaves_yet, only_image}}
use Rattle.{mg_journal.{proofs.ApplyRuns.none_written, specs.{Applied.filled, Contents.names}}, std.proofs.Common.{refl, ◌≡◌, ℕ, arith, true}}
use Rattle.mg_journal.proofs.applying.apply.Goals as goal

pub returns-then-places-eq0-clause-any_moment : goal.returns-then-places-eq0-clause-any_moment
returns-then-places-eq0-clause-any_moment g c pending image told =
    let disk = c.args.disk.now in
    let P : ℕ → Type 0 = λ i. names (filled image c.args.places.now) i ≡ true in
    leaves_yet g.D.Disk disk (SameBut P image) (g.met.D.Disk.now_has_been disk)
    (λ x left. same_as P image x (only_image g.D.Disk disk image x (record { told = told; settled = pending }) left))

pub returns-then-places-eq0-clause-written : goal.returns-then-places-eq0-clause-written
returns-then-places-eq0-clause-written g c = none_written c.args.places.now (g.D.Disk.seen c.args.disk.now) (omega (arith, c.if-places-eq0.true))

pub returns-then-places-eq0-clause-torn : goal.returns-then-places-eq0-clause-torn
returns-then-places-eq0-clause-torn g c =
    becomes-same (λ image. SameBut (λ k. names (filled image c.args.places.now) k ≡ true) image) _ _ refl (λ a told. same_as (λ k. names (filled a c.args.places.now) k ≡ true) a a refl)

pub returns-in_err-put_homes-clause-any_moment : goal.returns-in_err-put_homes-clause-any_moment
returns-in_err-put_homes-clause-any_moment g c pending image told = (c.put_homes.ensures.tracks pending image told).leaves

use Rattle.{mg_access.{proofs.{Allowed.kept-allowed, Found.unsearched, Reached.base-of}, specs.Finding.Finds}, mg_model.specs.Access.{allowed, at}}
use Rattle.{mg_model.specs.Access.covers, mg_vcache.specs.Seats.is_kept, mg_volume.specs.{Meaning.now_of, RunLemmas.told_rows}}
use Rattle.std.proofs.Common.{Some, ap, subst, ◌∙◌, ◌≡◌, true, rules}
use Rattle.mg_access.proofs.validating.validate.Goals as goal

pub returns-in-Some-clause-row : goal.returns-in-Some-clause-row
returns-in-Some-clause-row g c image told =
    let held = c.in-Some.ensures.at in
    record {
      row = held.row;
      found =
          kept-allowed (now_of c.args.volume.now image) c.args.thread c.args.address c.args.right held.row c.args.cache.now (c.requires.sound.formed image told) c.backed_seats_are_allowed.ensures.allows
          (told_rows c.args.volume.now image (λ row. covers row c.args.address) (Some held.row) held.found) (c.requires.backed image told)
          (subst (λ b. is_kept c.args.cache.now (record { thread = c.args.thread; base = b; right = c.args.right }) ≡ true) held.is c.in-Some.ensures.kept);
      is = held.is;
    }

pub returns-in-Some-clause-base : goal.returns-in-Some-clause-base
returns-in-Some-clause-base g c image told =
    let state = now_of c.args.volume.now image in
    let reached = returns-in-Some-clause-row g c image told in
    ap (λ base. Some base) reached.is ∙ base-of (allowed state c.args.thread c.args.address c.args.right) (at state.objects c.args.address) (Some reached.row) reached.found

pub returns-in-Some-clause-finds : goal.returns-in-Some-clause-finds
unfolding returns-in-Some-clause-row
returns-in-Some-clause-finds g c =
    let held = c.in-Some.ensures.at in
    unsearched g.D.Disk c.args.thread c.args.address c.args.right c.args.volume.now c.kept_base.new.volume c.args.cache.now c.args.disk.now c.args.steps.now (Some held.row) (Some c.in-Some.base) (search rules) (λ image told. (returns-in-Some-clause-row g c image told).found)
    (subst (λ b. is_kept c.args.cache.now (record { thread = c.args.thread; base = b; right = c.args.right }) ≡ true) held.is c.in-Some.ensures.kept) (search rules)

pub returns-clause-finds : goal.returns-clause-finds
returns-clause-finds g c =
    subst (λ v. Finds g.D.Disk (record { thread = c.args.thread; address = c.args.address; right = c.args.right }) c.search_base.result v c.search_base.new.volume c.args.cache.now c.search_base.new.cache c.args.disk.now c.search_base.new.disk c.args.steps.now c.search_base.new.steps)
    c.kept_base.ensures.same c.search_base.ensures.finds

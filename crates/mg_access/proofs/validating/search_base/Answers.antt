use Rattle.mg_access.proofs.{Allowed.sought-there, Found.{finds-as, finds-failed, unsearched}, Reached.{base-of, reached-none}, Tried.known-at}
use Rattle.{mg_model.specs.Access.{allowed, at, covers, domain_of}, mg_volume.specs.{Meaning.{now_of, objects_in}, RunLemmas.told_rows}}
use Rattle.std.proofs.Common.{None, Some, refl, sym, ◌∙◌, rules}
use Rattle.mg_access.proofs.validating.search_base.Goals as goal

pub returns-in_default-clause-row : goal.returns-in_default-clause-row
returns-in_default-clause-row g c image told =
    reached-none (now_of c.args.volume.now image) (domain_of (now_of c.args.volume.now image) c.args.thread) c.args.address c.args.right (told_rows c.args.volume.now image (λ row. covers row c.args.address) None (sym c.in_default.ensures.found))

pub returns-in_default-clause-base : goal.returns-in_default-clause-base
returns-in_default-clause-base g c image told =
    let state = now_of c.args.volume.now image in
    base-of (allowed state c.args.thread c.args.address c.args.right) (at state.objects c.args.address) None (returns-in_default-clause-row g c image told)

pub search-requires-clause-sought : goal.search-requires-clause-sought
search-requires-clause-sought g c =
    (c.args.address, sought-there c.args.volume.now c.args.address (record { object = c.in-Some.object; right = c.args.right; period = c.period.result }) c.globals.result c.in-Some.ensures.found c.globals.ensures c.period.ensures)

pub search-requires-clause-missed : goal.search-requires-clause-missed
search-requires-clause-missed g c =
    sym (known-at c.args.thread c.args.address c.args.right (objects_in c.args.volume.now) c.args.cache.now c.in-Some.object c.in-Some.object.base (sym c.in-Some.ensures.found) refl) ∙ c.requires.missed

pub returns-in_default-clause-finds : goal.returns-in_default-clause-finds
returns-in_default-clause-finds g c =
    unsearched g.D.Disk c.args.thread c.args.address c.args.right c.args.volume.now c.args.volume.now c.args.cache.now c.args.disk.now c.args.steps.now None None c.requires.backed (returns-in_default-clause-row g c) tt (search rules)

pub returns-in-Some-2-clause-finds : goal.returns-in-Some-2-clause-finds
returns-in-Some-2-clause-finds g c =
    let there = sought-there c.args.volume.now c.args.address (record { object = c.in-Some.object; right = c.args.right; period = c.period.result }) c.globals.result c.in-Some.ensures.found c.globals.ensures c.period.ensures in
    finds-as g.D.Disk c.args.thread c.args.address c.args.right c.args.volume.now c.search.new.volume c.args.cache.now c.search.new.cache c.args.disk.now c.search.new.disk c.args.steps.now c.search.new.steps _ (Some c.base.result) (λ none. cc) (c.in_ok-search.ensures.finds c.args.address there)

pub returns-in-None-clause-finds : goal.returns-in-None-clause-finds
returns-in-None-clause-finds g c =
    let there = sought-there c.args.volume.now c.args.address (record { object = c.in-Some.object; right = c.args.right; period = c.period.result }) c.globals.result c.in-Some.ensures.found c.globals.ensures c.period.ensures in
    finds-as g.D.Disk c.args.thread c.args.address c.args.right c.args.volume.now c.search.new.volume c.args.cache.now c.search.new.cache c.args.disk.now c.search.new.disk c.args.steps.now c.search.new.steps _ None (λ none. c.in-None.is) (c.in_ok-search.ensures.finds c.args.address there)

pub returns-in_err-search-clause-finds : goal.returns-in_err-search-clause-finds
returns-in_err-search-clause-finds g c =
    let there = sought-there c.args.volume.now c.args.address (record { object = c.in-Some.object; right = c.args.right; period = c.period.result }) c.globals.result c.in-Some.ensures.found c.globals.ensures c.period.ensures in
    finds-failed g.D.Disk c.args.thread c.args.address c.args.right c.args.volume.now c.search.new.volume c.args.cache.now c.search.new.cache c.args.disk.now c.search.new.disk c.args.steps.now c.search.new.steps _ c.from_residual.result c.from_residual.ensures.0 (c.in_err-search.ensures.finds c.args.address there)

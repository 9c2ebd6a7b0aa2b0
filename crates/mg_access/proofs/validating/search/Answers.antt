use Rattle.mg_access.proofs.{Allowed.{opened-allowed, opened-backed, sought-period, sought-row, unopened-allowed}, Found.{searched, unfinished}}
use Rattle.{mg_access.proofs.Tried.filled, mg_model.specs.{Backed.IsBacked, Keys.seat_of}, mg_vcache.specs.{SeatLemmas.each_fill, Seats.AllBacked}}
use Rattle.{mg_vcache.specs.Seats.is_kept, mg_volume.specs.Meaning.now_of, std.proofs.Common.{None, Some, refl, sym, subst, ◌≡◌, true, rules}}
use Rattle.std.specs.Option.{ForSome}
use Rattle.mg_access.proofs.validating.search.Goals as goal

pub returns-in-Some-clause-row : goal.returns-in-Some-clause-row
returns-in-Some-clause-row g c image told a there =
    opened-allowed (now_of c.args.volume.now image) c.args.thread a c.args.sought.now (sought-row c.args.volume.now image a c.args.sought.now there) (sought-period c.args.volume.now image a c.args.sought.now there) c.in-Some.via
    (rw c.in-Some.is at (c.in_ok-via.ensures.via image told))

pub returns-in-None-clause-row : goal.returns-in-None-clause-row
returns-in-None-clause-row g c image told a there =
    unopened-allowed (now_of c.args.volume.now image) c.args.thread a c.args.sought.now (sought-row c.args.volume.now image a c.args.sought.now there) (sought-period c.args.volume.now image a c.args.sought.now there)
    (rw c.in-None.is at (c.in_ok-via.ensures.via image told))

pub returns-in-Some-clause-finds : goal.returns-in-Some-clause-finds
returns-in-Some-clause-finds g c a there =
    let backed : ForSome (g.D.Disk.seen c.args.disk.now) (λ image. AllBacked (now_of c.list_of.new.volume image) c.fill.new.self) = λ image told.
    let state = now_of c.args.volume.now image in
    let backed = opened-backed state c.args.thread a c.args.sought.now (sought-row c.args.volume.now image a c.args.sought.now there) (sought-period c.args.volume.now image a c.args.sought.now there) c.in-Some.via
    (c.requires.sound.formed image told) c.backed_seats_are_allowed.ensures.opened (rw c.in-Some.is at (c.in_ok-via.ensures.via image told)) in
    let filled = each_fill (λ seat. IsBacked state seat) c.args.cache.now (seat_of (record { thread = c.args.thread; base = c.base.result; right = c.args.sought.now.right }))
    (record { thread = c.args.thread; base = c.base.result; right = c.args.sought.now.right; via = c.in-Some.via })
    (subst (λ b. IsBacked state (record { thread = c.args.thread; base = b; right = c.args.sought.now.right; via = c.in-Some.via })) (sym c.base.ensures.value) backed) (c.requires.backed image told) in
    subst (λ s. AllBacked s c.fill.new.self) (sym (c.list_of.ensures.reads.keeps.now image)) (subst (λ seats. AllBacked state seats) (sym c.fill.ensures.put) filled) in
    searched g.D.Disk c.args.thread a c.args.sought.now.right c.args.volume.now c.list_of.new.volume c.args.cache.now c.fill.new.self c.args.disk.now c.list_of.new.disk c.args.steps.now c.list_of.new.steps c.args.sought.now.object there.found c.requires.missed
    backed c.list_of.ensures.nobody c.list_of.ensures.at_most_search_limit_read c.list_of.ensures.reads (Some c.args.sought.now.object) (Some c.in-Some.via) (λ image told. returns-in-Some-clause-row g c image told a there)
    (subst (λ b. is_kept c.fill.new.self (record { thread = c.args.thread; base = b; right = c.args.sought.now.right }) ≡ true) c.base.ensures.value c.fill.ensures.kept)
    (filled c.args.thread a c.args.sought.now.right c.args.cache.now c.fill.new.self c.args.sought.now.object c.base.result c.in-Some.via c.base.ensures.value c.fill.ensures.put) (λ none. cc) (λ none. cc)

pub returns-in-None-clause-finds : goal.returns-in-None-clause-finds
returns-in-None-clause-finds g c a there =
    searched g.D.Disk c.args.thread a c.args.sought.now.right c.args.volume.now c.list_of.new.volume c.args.cache.now c.args.cache.now c.args.disk.now c.list_of.new.disk c.args.steps.now c.list_of.new.steps c.args.sought.now.object there.found c.requires.missed
    (search rules) c.list_of.ensures.nobody c.list_of.ensures.at_most_search_limit_read c.list_of.ensures.reads None None (λ image told. returns-in-None-clause-row g c image told a there) tt tt (λ none. refl) (λ none. refl)

pub returns-in_err-via-clause-finds : goal.returns-in_err-via-clause-finds
returns-in_err-via-clause-finds g c a there =
    unfinished g.D.Disk c.args.thread a c.args.sought.now.right c.args.volume.now c.list_of.new.volume c.args.cache.now c.args.cache.now c.args.disk.now c.list_of.new.disk c.args.steps.now c.list_of.new.steps c.args.sought.now.object there.found c.requires.missed
    (search rules) c.list_of.ensures.nobody c.list_of.ensures.at_most_search_limit_read c.list_of.ensures.reads c.from_residual.result c.from_residual.ensures.0 refl (search rules)

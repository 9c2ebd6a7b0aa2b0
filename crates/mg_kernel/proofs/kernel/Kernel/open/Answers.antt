use Rattle.mg_kernel.{proofs.Standing.stands-opened, specs.{Meaning.{is_live, seats_in, staged_of}, Opening.{Opens, Starts}}}
use Rattle.{mg_kernel.specs.declared.kernel.Kernel.Kernel, mg_model.specs.{Limits.seat_count, Volume.volume}, mg_vcache.specs.SeatLemmas.backed_none}
use Rattle.{mg_volume.specs.Meaning.now_of, std.{proofs.{Common.{None, refl, subst, sym}, lemmas.Result.IfOk-weaker}, specs.Prelude.replicate}}
use Rattle.mg_kernel.specs.Meaning as kernel
use Rattle.mg_kernel.proofs.kernel.Kernel.open.Goals as goal

pub returns-in-Ok-clause-starts : goal.returns-in-Ok-clause-starts
unfolding is_live seats_in staged_of
returns-in-Ok-clause-starts g c =
    let is_open = rw c.in-Ok.is at c.open.ensures.opened in
    let made : Kernel = record { volume = c.in-Ok.volume; cache = replicate seat_count None } in
    IfOk-weaker c.with_cache.result _ _
    (λ k is.
    subst (λ k. Starts g.D.Disk k c.open.new.disk) (sym is) (record {
      live = is_open.live;
      stands = stands-opened g.D.Disk made c.open.new.disk is_open.stands (g.met.D.Disk.seen_bytes c.open.new.disk) c.is_formed.ensures is_open.staged (λ image told. is_open.sound image) (λ image told. backed_none (now_of c.in-Ok.volume image) seat_count);
      none_staged = is_open.staged;
      none_kept = refl;
    }))
    c.with_cache.ensures.kernel

pub returns-in-Ok-clause-opens : goal.returns-in-Ok-clause-opens
unfolding kernel.now_of
returns-in-Ok-clause-opens g c =
    let is_open = rw c.in-Ok.is at c.open.ensures.opened in
    let seen = g.D.Disk.seen c.open.new.disk in
    IfOk-weaker c.with_cache.result _ _
    (λ k is image told.
    let o = is_open.opens image told in
    subst (λ k. Opens (volume image) k seen) (sym is) (record { state = o.state; is = o.is; holds = record { image = o.holds.image; is = o.holds.is; kept = o.holds.kept; now = o.holds.now } }))
    c.with_cache.ensures.kernel

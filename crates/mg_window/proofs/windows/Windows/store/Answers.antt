use Rattle.mg_window.{proofs.{Apart.apart_set, Seen.store_seen}, specs.{Attached.{Listed, device_at, seen, with_device}, Devices.stored}}
use Rattle.std.{proofs.{Common.{◌<◌, ◌≡◌, ◌∙◌, arith, length, slice_set, subst, sym}, lemmas.List.length-set}, specs.Prelude.MatchResult}
use Rattle.mg_window.proofs.windows.Windows.store.Goals as goal

pub invariant_of-self : goal.invariant_of-self
invariant_of-self g c =
    let windows = c.self.inside.list.items in
    let window = c.index_mut.result.now in
    let few = c.self.invariant.1 in
    let long = length-set windows c.args.i (window.0, c.store.new.self) in
    (c.self.invariant.0, omega arith, apart_set windows c.args.i window c.store.new.self (sym c.index_mut.ensures.value) ∙ c.self.invariant.2)

pub returns : goal.returns
returns g c =
    let held = g.D.Device.held in
    let windows = c.self.inside.list.items in
    let P : Listed _ → Type 0 = λ ws. MatchResult c.store.result
    (λ _. (length (device_at (seen held ws) c.args.i).tape < (device_at (seen held ws) c.args.i).room)
    × (seen held (slice_set windows c.args.i (c.index_mut.result.now.0, c.store.new.self)) ≡ with_device (seen held ws) c.args.i (stored (device_at (seen held ws) c.args.i) c.args.off c.args.value)))
    (λ full. (length (device_at (seen held ws) c.args.i).tape ≡ (device_at (seen held ws) c.args.i).room) × (full.room ≡ (device_at (seen held ws) c.args.i).room)
    × (seen held (slice_set windows c.args.i (c.index_mut.result.now.0, c.store.new.self)) ≡ seen held ws)) in
    let Q : Listed _ → Type 0 = λ ws. c.args.i < length ws in
    subst P c.self.view_is (store_seen held windows c.args.i c.args.off c.args.value c.index_mut.result.now c.store.new.self c.store.result (subst Q (sym c.self.view_is) c.requires) (sym c.index_mut.ensures.value) c.store.ensures)

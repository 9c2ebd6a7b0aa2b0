use Rattle.mg_disk.specs.{BecomesLemmas.{becomes-changed, becomes-then, becomes-to}, Disk.SameBut, Stops.Leaves}
use Rattle.mg_journal.{proofs.{CommitRuns.{after_bodies, after_gate}, CommitSteps.next, NewestSteps.shut_from}, specs.Held.Store}
use Rattle.{mg_journal.specs.{Phases.{HoldsWrites, IsBehind, IsNext}, Standing.held_fits}, mg_model.specs.Layout.{globals_block, segment_gate}}
use Rattle.std.proofs.{Common.{◌≡◌, ◌≤◌, ◌∙◌, ap, arith, length, option_map, refl, slice_set, subst, sym}, lemmas.Result.on_ok_weaker}
use Rattle.mg_journal.proofs.store.Store.write_next.Goals as goal

pub returns-in_err-write_segment-clause-any_moment : goal.returns-in_err-write_segment-clause-any_moment
returns-in_err-write_segment-clause-any_moment g c image told =
    let store = c.args.self.now in
    let stands = c.requires.stands in
    let shut = shut_from store.total store.opened store.table image (held_fits store image (stands.fits image told)) in
    after_bodies g.D.Disk store.total store.opened c.args.writes.now image c.requires.fewer_than_8_open shut c.args.disk.now c.write_segment.new.disk
    (subst (λ n. Leaves g.D.Disk c.args.disk.now c.write_segment.new.disk (SameBut (IsBehind n) image)) (ap (λ (s : Store). s.opened) c.self.view_is) (c.write_segment.ensures.any_moment stands.settled image told))

pub returns-clause-any_moment : goal.returns-clause-any_moment
returns-clause-any_moment g c image told =
    let store = c.args.self.now in
    let stands = c.requires.stands in
    let writes = c.args.writes.now in
    let is = ap (λ (s : Store). s.opened) c.self.view_is in
    let shut = shut_from store.total store.opened store.table image (held_fits store image (stands.fits image told)) in
    let b = becomes-to (HoldsWrites c.self.inside.opened writes) (g.D.Disk.seen c.args.disk.now) (g.D.Disk.seen c.write_segment.new.disk) image c.in_ok-write_segment.ensures.written told in
    after_gate g.D.Disk store.total store.opened writes image c.requires.fewer_than_8_open shut c.requires.homes c.requires.at_most_160_writes b.0 (subst (λ n. HoldsWrites n writes image b.0) is b.2)
    c.gate_of.result (c.gate_of.ensures ∙ ap segment_gate is) c.args.disk.now c.write_segment.new.disk c.write_firmly.new.disk
    (subst (λ n. Leaves g.D.Disk c.args.disk.now c.write_segment.new.disk (SameBut (IsBehind n) image)) is (c.write_segment.ensures.any_moment stands.settled image told))
    (c.write_firmly.ensures.any_moment c.in_ok-write_segment.ensures.settled b.0 b.1)

pub returns-clause-next : goal.returns-clause-next
returns-clause-next g c =
    on_ok_weaker c.write_firmly.result
    (λ wrote.
    let store = c.args.self.now in
    let stands = c.requires.stands in
    let writes = c.args.writes.now in
    let gate = c.opened_gate.result in
    let at = c.gate_of.result in
    let mid = g.D.Disk.seen c.write_segment.new.disk in
    let now = g.D.Disk.seen c.write_firmly.new.disk in
    let is = ap (λ (s : Store). s.opened) c.self.view_is in
    let set : now ≡ option_map (λ i. slice_set i (segment_gate store.opened) gate) mid = wrote ∙ ap (λ k. option_map (λ i. slice_set i k gate) mid) (c.gate_of.ensures ∙ ap segment_gate is) in
    becomes-then (HoldsWrites c.self.inside.opened writes) (λ b z. z ≡ slice_set b (segment_gate store.opened) gate) (IsNext store.total store.opened writes) (g.D.Disk.seen c.args.disk.now) mid now
    (λ image b z told holds z_is.
    let shut = shut_from store.total store.opened store.table image (held_fits store image (stands.fits image told)) in
    let counted = g.met.D.Disk.seen_count c.args.disk.now image told in
    let low = stands.journal in
    let high = stands.room in
    let room : globals_block ≤ length image = omega arith in
    subst (IsNext store.total store.opened writes image) (sym z_is)
    (next store.total store.opened writes image c.requires.fewer_than_8_open shut c.requires.homes c.requires.at_most_160_writes b (subst (λ n. HoldsWrites n writes image b) is holds) gate c.opened_gate.ensures room))
    c.in_ok-write_segment.ensures.written (becomes-changed (λ b z. z ≡ slice_set b (segment_gate store.opened) gate) (λ i. slice_set i (segment_gate store.opened) gate) mid now set (λ b at. refl)))
    c.write_firmly.ensures.written

use Rattle.{mg_model.specs.State.ObjectRow, mg_objects.{proofs.Apart.apart-next, specs.Held.{IsBefore, key_of, objects_in}}, std.proofs.Common.◌-◌}
use Rattle.std.proofs.{Common.{ℕ, ap, arith, length}, lemmas.List.{length-map, Sorted.all_adjacent_more}}
use Rattle.mg_objects.proofs.table.are_apart.Goals as goal

pub returns-then-base-pages-clause-meet : goal.returns-then-base-pages-clause-meet
returns-then-base-pages-clause-meet c = λ is apart.
    let d : ℕ × ObjectRow = (0, c.row_of-last.result.now) in
    let last = c.row_of-last.ensures d in
    let next = c.row_of-next.ensures d in
    let low = ap (λ (r : ObjectRow). r.base) last in
    let many = ap (λ (r : ObjectRow). r.pages) last in
    let high = ap (λ (r : ObjectRow). r.base) next in
    let at_least = c.loop-i.auto.i in
    let test = c.loop-i-test.true in
    let long = length-map (objects_in c.args.table.now) key_of in
    let same = ap length c.requires.listed in
    let before = apart (c.loop-i.i - 1) c.loop-i.i d (omega arith) (omega arith) in
    let meet = c.if-base-pages.true in
    omega arith

pub loop-i-preserved : goal.loop-i-preserved
loop-i-preserved c =
    all_adjacent_more (objects_in c.args.table.now) IsBefore c.loop-i.i c.loop-i.auto.i c.loop-i.invariant
    (λ d.
    let last = c.row_of-last.ensures d in
    let next = c.row_of-next.ensures d in
    let low = ap (λ (r : ObjectRow). r.base) last in
    let many = ap (λ (r : ObjectRow). r.pages) last in
    let high = ap (λ (r : ObjectRow). r.base) next in
    omega arith)

pub returns-clause-apart : goal.returns-clause-apart
returns-clause-apart c = λ is. apart-next (objects_in c.args.table.now) (λ k d under. c.loop-i.invariant k d (let test = c.loop-i-test.false in omega (arith, length-map (objects_in c.args.table.now) key_of, ap length c.requires.listed)))

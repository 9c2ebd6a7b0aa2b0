use Rattle.{mg_ranges.{proofs.{Cuts.{kept-ascend, kept-high}, Kept.{counted, gave}}, specs.Kept.Ascends}, std.proofs.Common.{◌++◌, ℕ, List, arith}}
use Rattle.std.proofs.Common.{subst, sym}
use Rattle.mg_ranges.proofs.ranges.Ranges.give.Goals as goal

pub count_to-at-requires : goal.count_to-at-requires
count_to-at-requires c = subst (λ (gaps : List (ℕ × ℕ)). Ascends gaps) (sym c.deref.ensures.value) (kept-ascend c.self.inside.gaps.items c.self.invariant.taken)

pub overflow_add-first : goal.overflow_add-first
overflow_add-first c =
    let k = counted c.deref.result.now c.self.inside.gaps.items c.args.first c.count_to-at.result c.deref.ensures.value c.count_to-at.ensures.within c.count_to-at.ensures.below c.count_to-at.ensures.above in
    let g = gave c.args.self.now c.self.inside.gaps.items c.args.first c.args.pages c.count_to-at.result c.requires c.self.view_is k in
    omega (arith, g.high)

pub join_behind-end-requires : goal.join_behind-end-requires
join_behind-end-requires c = record { high = kept-high c.self.inside.gaps.items c.self.invariant.taken }

pub join_before-place-requires-clause-place : goal.join_before-place-requires-clause-place
join_before-place-requires-clause-place c =
    let k = counted c.deref.result.now c.self.inside.gaps.items c.args.first c.count_to-at.result c.deref.ensures.value c.count_to-at.ensures.within c.count_to-at.ensures.below c.count_to-at.ensures.above in
    let g = gave c.args.self.now c.self.inside.gaps.items c.args.first c.args.pages c.count_to-at.result c.requires c.self.view_is k in
    (g.joined c.join_behind-end.result c.join_behind-end.new.gaps.items c.join_behind-end.ensures.joined c.join_behind-end.ensures.apart).0

pub join_before-place-requires-clause-high : goal.join_before-place-requires-clause-high
join_before-place-requires-clause-high c =
    let k = counted c.deref.result.now c.self.inside.gaps.items c.args.first c.count_to-at.result c.deref.ensures.value c.count_to-at.ensures.within c.count_to-at.ensures.below c.count_to-at.ensures.above in
    let g = gave c.args.self.now c.self.inside.gaps.items c.args.first c.args.pages c.count_to-at.result c.requires c.self.view_is k in
    (g.joined c.join_behind-end.result c.join_behind-end.new.gaps.items c.join_behind-end.ensures.joined c.join_behind-end.ensures.apart).1

pub put_piece-requires-clause-place : goal.put_piece-requires-clause-place
put_piece-requires-clause-place c =
    let k = counted c.deref.result.now c.self.inside.gaps.items c.args.first c.count_to-at.result c.deref.ensures.value c.count_to-at.ensures.within c.count_to-at.ensures.below c.count_to-at.ensures.above in
    let g = gave c.args.self.now c.self.inside.gaps.items c.args.first c.args.pages c.count_to-at.result c.requires c.self.view_is k in
    (g.inside c.join_behind-end.result c.join_before-place.result c.join_behind-end.new.gaps.items c.join_before-place.new.gaps.items c.join_behind-end.ensures.joined c.join_behind-end.ensures.apart c.join_before-place.ensures.joined c.join_before-place.ensures.apart).0

pub put_piece-requires-clause-has_capacity : goal.put_piece-requires-clause-has_capacity
put_piece-requires-clause-has_capacity c =
    let k = counted c.deref.result.now c.self.inside.gaps.items c.args.first c.count_to-at.result c.deref.ensures.value c.count_to-at.ensures.within c.count_to-at.ensures.below c.count_to-at.ensures.above in
    let g = gave c.args.self.now c.self.inside.gaps.items c.args.first c.args.pages c.count_to-at.result c.requires c.self.view_is k in
    let few = (g.inside c.join_behind-end.result c.join_before-place.result c.join_behind-end.new.gaps.items c.join_before-place.new.gaps.items c.join_behind-end.ensures.joined c.join_behind-end.ensures.apart c.join_before-place.ensures.joined c.join_before-place.ensures.apart).1 in
    omega (arith, few, c.join_before-place.ensures.keeps_capacity, c.join_behind-end.ensures.keeps_capacity, c.self.invariant.room)

pub invariant_of-self : goal.invariant_of-self
invariant_of-self c =
    let k = counted c.deref.result.now c.self.inside.gaps.items c.args.first c.count_to-at.result c.deref.ensures.value c.count_to-at.ensures.within c.count_to-at.ensures.below c.count_to-at.ensures.above in
    let g = gave c.args.self.now c.self.inside.gaps.items c.args.first c.args.pages c.count_to-at.result c.requires c.self.view_is k in
    let r = c.requires in
    record {
      taken = record {
        taken = r.before ++ r.behind;
        leave = g.left r.before r.behind r.leave c.join_behind-end.result c.join_before-place.result c.join_behind-end.new.gaps.items c.join_before-place.new.gaps.items c.put_piece.new.gaps.items c.join_behind-end.ensures.joined c.join_behind-end.ensures.apart c.join_before-place.ensures.joined c.join_before-place.ensures.apart c.put_piece.ensures.gaps;
      };
      room = omega (arith, c.put_piece.ensures.keeps_capacity, c.join_before-place.ensures.keeps_capacity, c.join_behind-end.ensures.keeps_capacity, c.self.invariant.room);
    }

pub returns : goal.returns
returns c =
    let k = counted c.deref.result.now c.self.inside.gaps.items c.args.first c.count_to-at.result c.deref.ensures.value c.count_to-at.ensures.within c.count_to-at.ensures.below c.count_to-at.ensures.above in
    let g = gave c.args.self.now c.self.inside.gaps.items c.args.first c.args.pages c.count_to-at.result c.requires c.self.view_is k in
    λ before behind leave.
    g.left before behind leave c.join_behind-end.result c.join_before-place.result c.join_behind-end.new.gaps.items c.join_before-place.new.gaps.items c.put_piece.new.gaps.items c.join_behind-end.ensures.joined c.join_behind-end.ensures.apart c.join_before-place.ensures.joined c.join_before-place.ensures.apart c.put_piece.ensures.gaps

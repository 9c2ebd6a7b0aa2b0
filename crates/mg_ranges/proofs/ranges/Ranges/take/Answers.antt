use Rattle.mg_ranges.{proofs.{Cuts.kept-ascend, Kept.{counted, took}, Lists.length-removed, Spans.length-put}, specs.Kept.Ascends}
use Rattle.std.proofs.Common.{◌≡◌, ◌<◌, ◌+◌, ◌-◌, ◌++◌, ◌∷◌, ℕ, List, ap, arith, length, subst, sym}
use Rattle.mg_ranges.proofs.ranges.Ranges.take.Goals as goal

pub count_to-at-requires : goal.count_to-at-requires
count_to-at-requires c = subst (λ (gaps : List (ℕ × ℕ)). Ascends gaps) (sym c.deref.ensures.value) (kept-ascend c.self.inside.gaps.items c.self.invariant.taken)

pub overflow_sub-at : goal.overflow_sub-at
overflow_sub-at c =
    let k = counted c.deref.result.now c.self.inside.gaps.items c.args.first c.count_to-at.result c.deref.ensures.value c.count_to-at.ensures.within c.count_to-at.ensures.below c.count_to-at.ensures.above in
    let t = took c.args.self.now c.self.inside.gaps.items c.args.first c.args.pages c.count_to-at.result c.requires c.self.view_is k in
    t.some

pub remove-gap-requires : goal.remove-gap-requires
remove-gap-requires c =
    let k = counted c.deref.result.now c.self.inside.gaps.items c.args.first c.count_to-at.result c.deref.ensures.value c.count_to-at.ensures.within c.count_to-at.ensures.below c.count_to-at.ensures.above in
    let t = took c.args.self.now c.self.inside.gaps.items c.args.first c.args.pages c.count_to-at.result c.requires c.self.view_is k in
    omega (arith, t.some, k.within, c.self.inside.gaps.ok.0)

pub overflow_add-first : goal.overflow_add-first
overflow_add-first c =
    let k = counted c.deref.result.now c.self.inside.gaps.items c.args.first c.count_to-at.result c.deref.ensures.value c.count_to-at.ensures.within c.count_to-at.ensures.below c.count_to-at.ensures.above in
    let t = took c.args.self.now c.self.inside.gaps.items c.args.first c.args.pages c.count_to-at.result c.requires c.self.view_is k in
    omega (arith, t.high)

pub overflow_add-gap : goal.overflow_add-gap
overflow_add-gap c =
    let k = counted c.deref.result.now c.self.inside.gaps.items c.args.first c.count_to-at.result c.deref.ensures.value c.count_to-at.ensures.within c.count_to-at.ensures.below c.count_to-at.ensures.above in
    let t = took c.args.self.now c.self.inside.gaps.items c.args.first c.args.pages c.count_to-at.result c.requires c.self.view_is k in
    let n = c.count_to-at.result - 1 in
    let is : n + 1 ≡ c.count_to-at.result = omega (arith, t.some) in
    let ends = t.ends n c.remove-gap.result is c.remove-gap.ensures.value in
    omega arith

pub put_piece-requires-2-clause-has_capacity : goal.put_piece-requires-2-clause-has_capacity
put_piece-requires-2-clause-has_capacity c =
    let k = counted c.deref.result.now c.self.inside.gaps.items c.args.first c.count_to-at.result c.deref.ensures.value c.count_to-at.ensures.within c.count_to-at.ensures.below c.count_to-at.ensures.above in
    let t = took c.args.self.now c.self.inside.gaps.items c.args.first c.args.pages c.count_to-at.result c.requires c.self.view_is k in
    let n = c.count_to-at.result - 1 in
    let gap = c.remove-gap.result in
    let x = c.remove-gap.new.self.items in
    let under : n < length c.self.inside.gaps.items = omega (arith, t.some, k.within) in
    let fewer = ap length c.remove-gap.ensures.items in
    let one = length-removed c.self.inside.gaps.items n under in
    let put = ap length c.put_piece.ensures.gaps in
    let more = length-put n (c.args.first + c.args.pages) (gap.0 + gap.1) x in
    omega (arith, t.few, fewer, one, put, more, c.put_piece.ensures.keeps_capacity, c.remove-gap.ensures.capacity, c.self.invariant.room)

pub invariant_of-self : goal.invariant_of-self
invariant_of-self c =
    let k = counted c.deref.result.now c.self.inside.gaps.items c.args.first c.count_to-at.result c.deref.ensures.value c.count_to-at.ensures.within c.count_to-at.ensures.below c.count_to-at.ensures.above in
    let t = took c.args.self.now c.self.inside.gaps.items c.args.first c.args.pages c.count_to-at.result c.requires c.self.view_is k in
    let n = c.count_to-at.result - 1 in
    let is : n + 1 ≡ c.count_to-at.result = omega (arith, t.some) in
    let r = c.requires in
    record {
      taken = record {
        taken = r.before ++ (c.args.first, c.args.pages) ∷ r.behind;
        leave = t.cut r.before r.behind r.leave r.more n c.remove-gap.result c.remove-gap.new.self.items c.put_piece.new.gaps.items c.put_piece-2.new.gaps.items is c.remove-gap.ensures.value c.remove-gap.ensures.items c.put_piece.ensures.gaps c.put_piece-2.ensures.gaps;
      };
      room = omega (arith, c.put_piece-2.ensures.keeps_capacity, c.put_piece.ensures.keeps_capacity, c.remove-gap.ensures.capacity, c.self.invariant.room);
    }

pub returns : goal.returns
returns c =
    let k = counted c.deref.result.now c.self.inside.gaps.items c.args.first c.count_to-at.result c.deref.ensures.value c.count_to-at.ensures.within c.count_to-at.ensures.below c.count_to-at.ensures.above in
    let t = took c.args.self.now c.self.inside.gaps.items c.args.first c.args.pages c.count_to-at.result c.requires c.self.view_is k in
    let n = c.count_to-at.result - 1 in
    let is : n + 1 ≡ c.count_to-at.result = omega (arith, t.some) in
    λ before behind leave more.
    t.cut before behind leave more n c.remove-gap.result c.remove-gap.new.self.items c.put_piece.new.gaps.items c.put_piece-2.new.gaps.items is c.remove-gap.ensures.value c.remove-gap.ensures.items c.put_piece.ensures.gaps c.put_piece-2.ensures.gaps

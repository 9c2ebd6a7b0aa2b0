use Rattle.{mg_ranges.{proofs.Spans.taken-take, specs.Gaps.{AreGapsOf, AreTaken}}, std.proofs.Common.{◌+◌, [], ℕ, List, get_or, subst, sym, take}}
use Rattle.std.proofs.lemmas.List.{append-nil, take_more}
use Rattle.mg_ranges.proofs.ranges.Ranges.of.Goals as goal

pub take-requires : goal.take-requires
take-requires c =
    let i = c.loop-span.span-index in
    let taken = c.args.taken.now in
    let span : ℕ × ℕ = get_or taken i (0, 0) in
    let P : List (ℕ × ℕ) → Type 0 = λ spans. AreGapsOf spans c.loop-span.ranges in
    record {
      before = take i taken;
      behind = [];
      leave = subst P (sym (append-nil (take i taken))) c.loop-span.invariant;
      more = subst AreTaken (take_more taken i (0, 0) c.loop-span-test.true) (taken-take (i + 1) taken c.requires);
    }

pub loop-span-preserved : goal.loop-span-preserved
loop-span-preserved c =
    let i = c.loop-span.span-index in
    let taken = c.args.taken.now in
    let P : List (ℕ × ℕ) → Type 0 = λ spans. AreGapsOf spans c.loop-span.ranges in
    let Q : List (ℕ × ℕ) → Type 0 = λ spans. AreGapsOf spans c.take.new.self in
    let next = take_more taken i (0, 0) c.loop-span-test.true in
    subst Q (sym next) (c.take.ensures (take i taken) [] (subst P (sym (append-nil (take i taken))) c.loop-span.invariant) (subst AreTaken next (taken-take (i + 1) taken c.requires)))

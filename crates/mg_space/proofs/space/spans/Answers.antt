use Rattle.{mg_model.specs.{Abbreviations.no_row, State.ObjectRow}, mg_ranges.specs.Gaps.AreTaken, mg_space.proofs.Spans.{spans-more, taken-spans}}
use Rattle.{mg_space.specs.Space.spans_in, std.proofs.Common.{◌≡◌, ◌∙◌, ◌<◌, ◌++◌, ◌∷◌, [], ℕ, List, ap, arith, if◌then◌else◌, is_ok, length, rules}}
use Rattle.std.proofs.{Common.{subst, sym, take, true}, lemmas.List.take_all}
use Rattle.mg_space.proofs.space.spans.Goals as goal

pub loop-i-preserved : goal.loop-i-preserved
loop-i-preserved c =
    let objects = c.args.objects.now in
    let i = c.loop-i.i in
    let d : ℕ × ObjectRow = (0, no_row) in
    let under : i < length objects = omega (arith, c.loop-i-test.true, c.len-i-end.ensures.count) in
    let ok : is_ok c.push.result ≡ true = search rules in
    let items = c.loop-i.spans.items in
    let pushed : c.push.new.self.items ≡ items ++ c.span_of.result ∷ [] = c.push.ensures.items ∙ ap (λ t. if t then items ++ c.span_of.result ∷ [] else items) ok in
    pushed
    ∙ ap (λ xs. xs ++ c.span_of.result ∷ []) c.loop-i.invariant
    ∙ ap (λ (s : ℕ × ℕ). spans_in (take i objects) ++ s ∷ []) c.span_of.ensures.span
    ∙ sym (spans-more objects i d c.nth_ref.result.now under (c.nth_ref.ensures d))

pub returns-clause-taken : goal.returns-clause-taken
returns-clause-taken c =
    let objects = c.args.objects.now in
    let e = c.len-i-end.ensures.count in
    let over : length objects ≡ c.loop-i.i = omega (arith, c.loop-i-test.false, c.loop-i.auto.i-end) in
    let all : c.loop-i.spans.items ≡ spans_in objects = c.loop-i.invariant ∙ ap spans_in (take_all c.loop-i.i objects (omega arith)) in
    let P : List (ℕ × ℕ) → Type 0 = λ spans. AreTaken spans in
    subst P (sym all) (taken-spans objects (omega (arith, c.len-i-end.ensures.at_most_4096)) c.len-i-end.ensures.apart c.len-i-end.ensures.rows)

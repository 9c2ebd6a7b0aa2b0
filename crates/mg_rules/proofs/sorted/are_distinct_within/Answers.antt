use Rattle.{mg_model.specs.Tests.all_distinct, mg_rules.proofs.{Apart.{distinct-same, sorted-numbers}, Covered.all-permuted}}
use Rattle.mg_rules.{proofs.sorted.are_distinct_within.Goals.{then-all_lie_in, else-all_lie_in}, specs.Spans.{is_in, rises_from}}
use Rattle.std.{proofs.Common.{◌≡◌, ◌&&◌, ℕ, sym, ap, ◌∙◌}, specs.List.{list_all, list_any}}
use Rattle.mg_rules.proofs.sorted.are_distinct_within.Goals as goal

pub returns : goal.returns
returns c =
    let numbers = c.args.numbers.items in
    let sorted = c.sort_unstable.new.self.items in
    let moved = c.sort_unstable.ensures.permutation in
    let lies = λ (n : ℕ). list_any (is_in n) c.args.spans.now in
    let all : list_all lies numbers ≡ c.all_lie_in.result = all-permuted lies numbers sorted moved ∙ sym (c.all_lie_in.ensures ∙ ap (list_all lies) c.deref.ensures.value) in
    elim c.if-all_lie_in.branch [
      | then-all_lie_in w ↦ w.result-is ∙ w.rise.ensures ∙ ap (rises_from 0) w.deref-then-all_lie_in.ensures.value
          ∙ sym (distinct-same numbers sorted moved (sorted-numbers sorted c.sort_unstable.ensures.sorted))
          ∙ sym (ap (λ t. t && all_distinct numbers) (all ∙ w.if-all_lie_in.true))
      | else-all_lie_in w ↦ w.result-is ∙ w.if-all_lie_in.false ∙ sym (ap (λ t. t && all_distinct numbers) (all ∙ w.if-all_lie_in.false))
    ]

use Rattle.std.proofs.{Common.{◌∙◌, ◌≤◌, ◌<◌, ℕ, List, length, ap, arith, get_or, slice_set, sym, take}, lemmas.List.Elements.{All-more, All-weaker}}
use Rattle.std.proofs.lemmas.List.Sums.{fold_more}
use Rattle.mg_index.proofs.pairs.free_places.Goals as goal

pub loop-pair-preserved : goal.loop-pair-preserved
loop-pair-preserved c =
    let pairs = c.args.pairs.now in
    let i = c.loop-pair.pair-index in
    let under : i < length pairs = c.loop-pair-test.true in
    let number = (get_or pairs i (0, 0)).1 in
    let least = c.min-lowest.ensures in
    let old = c.loop-pair.invariant in (
      ap (λ (xs : List ℕ). slice_set xs number 0) old.0 ∙ sym (fold_more (λ (left : List ℕ) (pair : ℕ × ℕ). slice_set left pair.1 0) c.args.numbers.now pairs i (0, 0) under),
      omega (arith, old.1),
      All-more (λ (pair : ℕ × ℕ). c.min-lowest.result ≤ pair.1) pairs i (0, 0) under
          (All-weaker (λ (pair : ℕ × ℕ). c.loop-pair.lowest ≤ pair.1) (λ (pair : ℕ × ℕ). c.min-lowest.result ≤ pair.1) (λ pair le. omega arith) (take i pairs) old.2)
          (omega arith),
    )

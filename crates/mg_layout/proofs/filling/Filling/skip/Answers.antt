use Rattle.{mg_model.specs.{Filled.IsFilled, FilledLemmas.{filled-take, length-filled}}, std.proofs.Common.{rules, ◌≡◌, ◌≤◌, ◌+◌, ◌-◌, ◌++◌, ℕ, List}}
use Rattle.std.proofs.{Common.{drop, take, length, replicate, sym, ap, ◌∙◌, arith}, Math.Seq.take-append-add, lemmas.List.{drop-drop, drop-replicate}}
use Rattle.std.proofs.lemmas.List.{take-replicate}
use Rattle.mg_layout.proofs.filling.Filling.skip.Goals as goal

module _ (size : ℕ) (items : List ℕ) (count n : ℕ) (is : IsFilled 0 size items count) (room : length (take count items) + n ≤ size) where
  more : take (count + n) items ≡ take count items ++ replicate n 0
  more =
      let xs = take count items in
      let short : length xs ≡ count = length-filled 0 size items count is in
      let whole : xs ++ replicate (size - length xs) 0 ≡ items = filled-take 0 size items count is in
      ap (take (count + n)) (sym whole)
      ∙ ap (λ k. take (k + n) (xs ++ replicate (size - length xs) 0)) (sym short)
      ∙ take-append-add xs (replicate (size - length xs) 0) n
      ∙ ap (λ v. xs ++ v) (take-replicate n (size - length xs) 0 (omega arith))

  filled : IsFilled 0 size items (count + n)
  filled =
      let short : length (take count items) ≡ count = length-filled 0 size items count is in
      let left : size - count - n ≡ size - (count + n) = omega arith in
      record {
        size = is.size;
        within = omega arith;
        rest = sym (drop-drop n count items) ∙ ap (drop n) is.rest ∙ drop-replicate n (size - count) 0 ∙ ap (λ k. replicate k 0) left;
      }

pub invariant_of-self : goal.invariant_of-self
invariant_of-self g c = search (rules, filled)

pub returns-clause-value : goal.returns-clause-value
returns-clause-value g c = grind (arith, more)

pub returns-clause-long : goal.returns-clause-long
returns-clause-long g c = search (rules, length-filled, filled)

use Rattle.mg_index.proofs.Bound.{place-found, place-not-found, nowhere-else}
use Rattle.mg_index.proofs.index.Index.place_of.Goals.{else-at-len-via-then-at-len+else-index-number, else-at-len-via-else-at-len}
use Rattle.{mg_index.specs.PlaceLemmas.nowhere, std.proofs.Common.{◌≡◌, ◌≢◌, ◌≤◌, ◌<◌, ◌==◌, ◌∙◌, ℕ, List, ap, arith, get_or, length, position, sym}}
use Rattle.std.{proofs.{Common.subst, lemmas.List.get_or_default}, specs.List.{AllWithin, Contains}}
use Rattle.mg_index.proofs.index.Index.place_of.Goals as goal

pub returns-then-index-number : goal.returns-then-index-number
returns-then-index-number c =
    let numbers = c.self.inside.numbers.items in
    let pairs = c.self.inside.pairs.items in
    let i = c.count_below-at.result in
    let under : i < length pairs = omega (arith, c.self.inside.pairs.ok.0) in
    let one = c.index.result.now in
    let two = c.index-then-index-number.result.now in
    let same : two ≡ one = c.index-then-index-number.ensures ∙ get_or_default pairs i two one under ∙ sym c.index.ensures in
    let there : Contains pairs two = (i, under, sym c.index-then-index-number.ensures) in
    let number : two.0 ≡ c.args.number = ap (λ (p : ℕ × ℕ). p.0) same ∙ c.if-index-number.true in
    sym (ap (position (λ entry. entry == c.args.number)) (sym c.self.view_is)
    ∙ sym (ap (λ n. position (λ entry. entry == n) numbers) number)
    ∙ place-found numbers pairs c.self.invariant.ascends c.self.invariant.exact two there)

pub returns-else-at-len : goal.returns-else-at-len
returns-else-at-len c =
    let numbers = c.self.inside.numbers.items in
    let pairs = c.self.inside.pairs.items in
    let i = c.count_below-at.result in
    let number = c.args.number in
    let value = c.deref.ensures.value in
    let low : AllWithin (λ (pair : ℕ × ℕ). pair.0 < number) pairs 0 i = let P = λ (xs : List (ℕ × ℕ)). AllWithin (λ (pair : ℕ × ℕ). pair.0 < number) xs 0 i in subst P value c.count_below-at.ensures.below in
    let high : AllWithin (λ (pair : ℕ × ℕ). number ≤ pair.0) pairs i (length pairs) =
    let P = λ (xs : List (ℕ × ℕ)). AllWithin (λ (pair : ℕ × ℕ). number ≤ pair.0) xs i (length xs) in subst P value c.count_below-at.ensures.above in
    let other : (d : ℕ × ℕ) → i < length pairs → (get_or pairs i d).0 ≢ number =
    λ d under is.
    elim c.else-at-len.branch [
      | else-at-len-via-then-at-len+else-index-number w ↦ w.if-index-number.false (ap (λ (p : ℕ × ℕ). p.0) (w.index.ensures ∙ get_or_default pairs i w.index.result.now d under) ∙ is)
      | else-at-len-via-else-at-len w ↦ absurd (omega (arith, c.self.inside.pairs.ok.0))
    ] in
    sym (ap (position (λ entry. entry == number)) (sym c.self.view_is)
    ∙ nowhere (λ entry. entry == number) numbers (place-not-found numbers pairs number c.requires c.self.invariant.exact (nowhere-else pairs number i c.self.invariant.ascends low high other)))

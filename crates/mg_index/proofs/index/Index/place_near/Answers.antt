use Rattle.{mg_index.proofs.Bound.place-found, std.proofs.Common.{◌≡◌, ◌<◌, ◌==◌, ap, length, sym, ◌∙◌, arith, position, slice_index}}
use Rattle.std.proofs.lemmas.List.{get_or_default}
use Rattle.mg_index.proofs.index.Index.place_near.Goals as goal

pub returns-then-index-number : goal.returns-then-index-number
returns-then-index-number c =
    let numbers = c.self.inside.numbers.items in
    let near = c.args.near in
    let under : near < length numbers = omega (arith, c.self.inside.numbers.ok.0) in
    let here : slice_index numbers near ≡ c.args.number = get_or_default numbers near 0 c.index.result.now under ∙ sym c.index.ensures ∙ c.if-index-number.true in
    let bound = (c.self.invariant.exact (c.args.number, near)).1 (c.requires, under, here) in
    sym (ap (position (λ entry. entry == c.args.number)) (sym c.self.view_is)
    ∙ place-found numbers c.self.inside.pairs.items c.self.invariant.ascends c.self.invariant.exact (c.args.number, near) bound)

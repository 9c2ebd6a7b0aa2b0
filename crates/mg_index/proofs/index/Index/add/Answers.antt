use Rattle.{mg_index.proofs.Bound.bound-above, std.proofs.{Common.{◌==◌, ◌∙◌, slice_index}, lemmas.{Bool.eqb-true, List.Quantifiers.position-Some}}}
use Rattle.mg_index.proofs.index.Index.add.Goals as goal

pub put-requires-clause-free : goal.put-requires-clause-free
put-requires-clause-free c =
    let place = c.lowest_free-place.result in
    eqb-true (slice_index c.args.self.now place) 0 (position-Some (λ entry. entry == 0) c.args.self.now place 0 c.lowest_free-place.ensures.lowest).1

pub invariant_of-self : goal.invariant_of-self
invariant_of-self c =
    bound-above c.args.self.now c.self.inside.numbers.items c.self.inside.pairs.items _ _ c.lowest_free-place.result c.args.number c.self.invariant c.lowest_free-place.ensures.lowest (c.self.view_is ∙ c.put.ensures) c.requires.number

use Rattle.{mg_model.specs.FilledLemmas.{IsFilled-add, length-filled}, std.proofs.Common.arith}
use Rattle.mg_model.proofs.few.Few.add.Goals as goal

pub invariant_of-self : goal.invariant_of-self
invariant_of-self g c =
    let filled = c.self.invariant in
    let few = c.requires in
    let view = c.self.view_is in
    let same = length-filled _ _ c.self.inside.items c.self.inside.count filled in
    IsFilled-add _ _ c.self.inside.items c.self.inside.count c.args.item filled (Prim.grind arith)

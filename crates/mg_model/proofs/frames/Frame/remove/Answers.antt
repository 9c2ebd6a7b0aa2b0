use Rattle.mg_model.proofs.Rows.{IsCallFrame-remove}
use Rattle.mg_model.proofs.frames.Frame.remove.Goals as goal

pub invariant_of-self : goal.invariant_of-self
invariant_of-self c = IsCallFrame-remove _ c.self.inside.slots _ c.args.self.now c.args.place c.self.invariant c.self.view_is c.remove.ensures c.requires

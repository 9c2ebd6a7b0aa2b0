use Rattle.mg_model.proofs.Rows.{IsObjectRow-entry}
use Rattle.mg_model.proofs.objects.ObjRow.add_entry.Goals as goal

pub invariant_of-self : goal.invariant_of-self
invariant_of-self c =
    let needs = c.requires in
    IsObjectRow-entry _ c.args.self.now c.args.address _ c.self.invariant c.self.view_is c.add.ensures (needs.fewer_than_16_entries, needs.place, needs.once)

use Rattle.mg_objects.proofs.Keys.{are_apart, are_rows, few, in_places}
use Rattle.mg_objects.proofs.objects.Objects.keep_rules.Goals as goal

pub returns : goal.returns
returns c =
    let rows = c.self.inside.rows.items in
    let bases = c.self.inside.bases in
    let now = c.args.self.now in
    record {
      at_most_4096 = few rows _ bases c.self.invariant now c.self.view_is;
      apart = are_apart rows _ bases c.self.invariant now c.self.view_is;
      places = in_places rows _ bases c.self.invariant now c.self.view_is;
      rows = are_rows rows _ bases c.self.invariant now c.self.view_is;
    }

use Rattle.{mg_volume.{proofs.{ByNumber.{few_are, put_is}, ThreadSearch.put_listed}, specs.Numbered.rows_with}, std.proofs.Common.{◌∙◌, ◌-◌, ap}}
use Rattle.std.proofs.Common.{arith, slice_set}
use Rattle.mg_volume.proofs.threads.Threads.put.Goals as goal

pub invariant_of-self : goal.invariant_of-self
invariant_of-self c =
    put_listed c.self.inside.rows.items c.self.inside.taken.items c.self.inside.ready.items (c.args.number - 1) c.args.row c.is_some.result c.turn_mark.result c.turn_mark.ensures.kept c.is_some.ensures c.turn_mark.ensures.value c.self.invariant

pub returns-clause-rows : goal.returns-clause-rows
returns-clause-rows c =
    let few = c.requires.t_at_most_256 in
    let long = c.self.invariant.by_number.long in
    put_is c.self.inside.rows.items c.args.number c.args.row c.requires.t_at_least_1 (omega arith) ∙ ap (rows_with c.args.number c.args.row) c.self.view_is

pub returns-clause-few : goal.returns-clause-few
returns-clause-few c = few_are (slice_set c.self.inside.rows.items (c.args.number - 1) c.args.row) (invariant_of-self c).by_number

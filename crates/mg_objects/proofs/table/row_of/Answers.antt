use Rattle.{mg_objects.{proofs.Apart.{listed-row, listed-within}, specs.Held.objects_in}, std.proofs.Common.{◌≡◌, ◌∙◌, Some, arith, get_or, sym}}
use Rattle.mg_objects.proofs.table.row_of.Goals as goal

pub offset_bounds-table-place : goal.offset_bounds-table-place
offset_bounds-table-place c = let few = c.requires.at_most_4096_rows in omega (arith, listed-within c.args.table.now c.args.pairs.now c.requires.listed c.args.i c.requires.rank)

pub bounds-table-place : goal.bounds-table-place
bounds-table-place c = listed-within c.args.table.now c.args.pairs.now c.requires.listed c.args.i c.requires.rank

pub unreachable-requires : goal.unreachable-requires
unreachable-requires c = (listed-row c.args.table.now c.args.pairs.now c.requires.listed c.args.i c.index-table-place.result c.requires.rank c.index-table-place.is).1 c.in-None.is

pub returns : goal.returns
returns c d =
    let row = (listed-row c.args.table.now c.args.pairs.now c.requires.listed c.args.i c.index-table-place.result c.requires.rank c.index-table-place.is).0 d in
    let same : Some c.in-Some.row ≡ Some (get_or (objects_in c.args.table.now) c.args.i d).1 = sym c.in-Some.is ∙ row in
    cc

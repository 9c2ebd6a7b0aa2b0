use Rattle.mg_volume.proofs.{ChangedBy.changed_by, ObjectChanged.{pages_same, put_changes, put_held, put_here, put_low, put_room, there_is}}
use Rattle.mg_volume.{proofs.RowsApart.changes_there, specs.{Meaning.{now_of, objects_in, staged_of}, contracts.volume.Volume.the_view}}
use Rattle.std.proofs.Common.{◌∙◌, ap}
use Rattle.mg_volume.proofs.volume.Volume.change.Goals as goal

pub update-place-requires-clause-there : goal.update-place-requires-clause-there
update-place-requires-clause-there c =
    let v = the_view c.self.inside in
    let change = rw (← c.self.view_is) at c.requires.change in
    there_is v c.args.row.base (changes_there (objects_in v) c.args.row change)

pub update-place-requires-clause-pages : goal.update-place-requires-clause-pages
update-place-requires-clause-pages c =
    let change = rw (← c.self.view_is) at c.requires.change in
    pages_same (the_view c.self.inside) c.args.row c.self.invariant.kept change

pub stage_row-requires-clause-place : goal.stage_row-requires-clause-place
stage_row-requires-clause-place c =
    let change = rw (← c.self.view_is) at c.requires.change in
    put_low (the_view c.self.inside) c.args.row c.update-place.result c.self.invariant.kept change c.update-place.ensures.place

pub stage_row-requires-clause-staged_or_fewer_than_160 : goal.stage_row-requires-clause-staged_or_fewer_than_160
unfolding staged_of
stage_row-requires-clause-staged_or_fewer_than_160 c =
    let change = rw (← c.self.view_is) at c.requires.change in
    let room = rw (← c.self.view_is) at c.requires.staged_or_fewer_than_160 in
    put_room (the_view c.self.inside) c.args.row c.update-place.result c.self.invariant.kept change c.update-place.ensures.place room

pub invariant_of-self : goal.invariant_of-self
invariant_of-self c = record {
  kept =
      let change = rw (← c.self.view_is) at c.requires.change in
      let staged = c.stage_row.ensures.block in
      rw (c.update-place.ensures.accounts, c.update-place.ensures.objects)
      (put_held (the_view c.self.inside) c.args.row c.update-place.result c.self.invariant.kept change c.update-place.ensures.place c.stage_row.new.pages c.update-place.ensures.row staged.shape.frames staged.table);
  paid = c.update-place.ensures.paid;
}

pub returns : goal.returns
returns c =
    let v = the_view c.self.inside in
    let may = rw (← c.self.view_is) at c.requires.change in
    let staged = rw (c.update-place.ensures.objects) at c.stage_row.ensures in
    let all = put_changes v c.args.row c.update-place.result c.self.invariant.kept may c.update-place.ensures.place c.stage_row.new.pages staged in
    let here = put_here v c.args.row c.update-place.result c.self.invariant.kept may c.update-place.ensures.place c.stage_row.new.pages staged (changes_there (objects_in v) c.args.row may) in
    rw (← c.self.view_is, c.update-place.ensures.accounts, c.update-place.ensures.objects)
    (record {
      now = λ change gives image. all.now image ∙ ap (λ objects. record (now_of v image) { objects = objects }) (changed_by v image c.args.row change c.self.invariant.kept gives);
      rows = all.rows;
      stages = all.stages;
      objects = all.objects;
      here = here;
    })

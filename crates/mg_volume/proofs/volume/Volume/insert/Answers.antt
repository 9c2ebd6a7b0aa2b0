use Rattle.mg_volume.{proofs.ObjectInserted.{inserted_changes, inserted_held, inserted_here, inserted_room, join_meets}, specs.Meaning.staged_of}
use Rattle.mg_volume.specs.contracts.volume.Volume.{the_view}
use Rattle.mg_volume.proofs.volume.Volume.insert.Goals as goal

pub insert-place-requires-clause-apart : goal.insert-place-requires-clause-apart
insert-place-requires-clause-apart c =
    let join = rw (← c.self.view_is) at c.requires.join in
    join_meets (the_view c.self.inside) c.args.row join

pub stage_row-requires-clause-staged_or_fewer_than_160 : goal.stage_row-requires-clause-staged_or_fewer_than_160
unfolding staged_of
stage_row-requires-clause-staged_or_fewer_than_160 c =
    let join = rw (← c.self.view_is) at c.requires.join in
    let room = rw (← c.self.view_is) at c.requires.staged_or_fewer_than_160 in
    inserted_room (the_view c.self.inside) c.args.row c.insert-place.result c.insert-place.ensures.row c.self.invariant.kept join c.insert-place.ensures.place room

pub invariant_of-self : goal.invariant_of-self
invariant_of-self c = record {
  kept =
      let join = rw (← c.self.view_is) at c.requires.join in
      let staged = c.stage_row.ensures.block in
      rw (c.insert-place.ensures.accounts, c.insert-place.ensures.objects)
      (inserted_held (the_view c.self.inside) c.args.row c.insert-place.result c.insert-place.ensures.row c.self.invariant.kept join c.insert-place.ensures.place c.stage_row.new.pages staged.shape.frames staged.table);
  paid = c.insert-place.ensures.paid;
}

pub returns : goal.returns
returns c =
    let v = the_view c.self.inside in
    let join = rw (← c.self.view_is) at c.requires.join in
    let staged = rw (c.insert-place.ensures.objects) at c.stage_row.ensures in
    let all = inserted_changes v c.args.row c.insert-place.result c.insert-place.ensures.row c.self.invariant.kept join c.insert-place.ensures.place c.stage_row.new.pages staged in
    let here = inserted_here v c.args.row c.insert-place.result c.insert-place.ensures.row c.self.invariant.kept join c.insert-place.ensures.place c.stage_row.new.pages staged in
    rw (← c.self.view_is, c.insert-place.ensures.accounts, c.insert-place.ensures.objects) (record { now = all.now; rows = all.rows; stages = all.stages; objects = all.objects; here = here })

use Rattle.mg_volume.proofs.{PagesChange.held_same, StillWaiting.{thread_here, thread_room}, ThreadStaged.{thread_changes, with_threads}}
use Rattle.mg_volume.specs.contracts.volume.Volume.{the_view}
use Rattle.mg_volume.proofs.volume.Volume.stage_thread.Goals as goal

pub stage_any-requires-clause-staged_or_fewer_than_160 : goal.stage_any-requires-clause-staged_or_fewer_than_160
stage_any-requires-clause-staged_or_fewer_than_160 c = thread_room (the_view c.self.inside) c.args.number (rw (← c.self.view_is) at c.requires.staged_or_fewer_than_160)

pub invariant_of-self : goal.invariant_of-self
invariant_of-self c = record {
  kept =
      let v = the_view c.self.inside in
      let staged = c.stage_any.ensures.staged in
      held_same v v.counters c.put.new.self c.stage_any.new.pages c.self.invariant.kept c.put.ensures.few staged.shape.frames staged.table;
  paid = c.self.invariant.paid;
}

pub returns : goal.returns
returns c =
    let v = the_view c.self.inside in
    let said = c.stage_any.ensures in
    let all = thread_changes v c.stage_any.new.pages c.args.number c.args.row c.put.new.self said.bytes c.requires.t_at_least_1 c.requires.t_at_most_256 c.put.ensures.rows said.staged (λ image s. said.read) in
    rw (← c.self.view_is)
    (record { now = all.now; rows = all.rows; stages = all.stages; objects = all.objects; here = thread_here (with_threads v c.put.new.self c.stage_any.new.pages) c.args.number said.staged.here })

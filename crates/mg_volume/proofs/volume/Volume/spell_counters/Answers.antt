use Rattle.{mg_model.specs.{Bytes.padded_to, Layout.block_size}, mg_volume.proofs.{PagesChange.held_same, Staged.{counters_changes, with_counters}}}
use Rattle.mg_volume.{proofs.StillWaiting.{counters_here, counters_room}, specs.contracts.volume.Volume.the_view}
use Rattle.mg_volume.proofs.volume.Volume.spell_counters.Goals as goal

pub stage_start-requires-clause-staged_or_fewer_than_160 : goal.stage_start-requires-clause-staged_or_fewer_than_160
stage_start-requires-clause-staged_or_fewer_than_160 c = counters_room (the_view c.self.inside) (rw (← c.self.view_is) at c.requires.staged_or_fewer_than_160)

pub invariant_of-self : goal.invariant_of-self
invariant_of-self c = record {
  kept =
      let v = the_view c.self.inside in
      held_same v c.args.counters v.threads c.stage_start.new.self c.self.invariant.kept c.self.invariant.kept.few_threads c.stage_start.ensures.shape.frames c.stage_start.ensures.table;
  paid = c.self.invariant.paid;
}

pub returns : goal.returns
returns c =
    let v = the_view c.self.inside in
    let p = c.stage_start.new.self in
    let said = c.stage_start.ensures in
    let all =
    counters_changes v p c.args.counters (padded_to block_size c.globals_start.result)
    (record { coming = said.coming; table = said.table; shape = said.shape; staged = said.staged; here = said.here; words = said.words; spelled = said.spelled })
    (λ image s. c.globals_start.ensures.read_back) in
    rw (← c.self.view_is) (record { now = all.now; rows = all.rows; stages = all.stages; objects = all.objects; here = counters_here (with_counters v p c.args.counters) said.here })

use Rattle.{mg_model.specs.State.Thread, mg_volume.proofs.{Found.{thread_found, thread_none}, PagesChange.held_same, StillWaiting.thread_here}}
use Rattle.mg_volume.proofs.{StillWaiting.thread_room, ThreadChanged.{living, thread_changed}, ThreadMoved.changes_found, ThreadStaged.thread_changes}
use Rattle.mg_volume.{proofs.ThreadStaged.with_threads, specs.{Meaning.threads_in, Standing.stands_at, contracts.volume.Volume.the_view}}
use Rattle.std.{proofs.Common.{◌==◌, ◌∙◌, ℕ, None, Some, ap, sym}, specs.Prelude.{find, is_some}}
use Rattle.mg_volume.proofs.volume.Volume.move_whole.Goals as goal

pub unreachable-requires : goal.unreachable-requires
unreachable-requires c =
    living (λ (x : ℕ). ⊥) ⊥ None c.args.number (threads_in c.args.self.now) (rw (← c.self.view_is) (thread_none (the_view c.self.inside) c.args.number c.in-None.ensures.found)) tt c.requires.lives

pub stage_held-requires-clause-staged_or_fewer_than_160 : goal.stage_held-requires-clause-staged_or_fewer_than_160
stage_held-requires-clause-staged_or_fewer_than_160 c = thread_room (the_view c.self.inside) c.args.number (rw (← c.self.view_is) at c.requires.staged_or_fewer_than_160)

pub invariant_of-self : goal.invariant_of-self
invariant_of-self c = record {
  kept =
      let held = c.stage_held.ensures (stands_at c.args.pc c.args.state c.args.regs.now c.in-Some._row.now) (c.move_to.ensures.there c.in-Some._row.now (sym c.in-Some.ensures.found)) in
      let v = the_view c.self.inside in
      held_same v v.counters c.move_to.new.self c.stage_held.new.pages c.self.invariant.kept c.move_to.ensures.few held.staged.shape.frames held.staged.table;
  paid = c.self.invariant.paid;
}

pub returns : goal.returns
returns c =
    let v = the_view c.self.inside in
    let row = c.in-Some._row.now in
    let stands = stands_at c.args.pc c.args.state c.args.regs.now in
    let found = c.in-Some.ensures.found in
    let held = c.stage_held.ensures (stands row) (c.move_to.ensures.there row (sym found)) in
    let all = thread_changes v c.stage_held.new.pages c.args.number (Some (stands row)) c.move_to.new.self held.bytes c.keep_number.ensures.at_least_1 c.keep_number.ensures.at_most_256 (c.move_to.ensures.stands row (sym found)) held.staged (λ image s. held.read) in
    let same = rw (← c.self.view_is) at c.numbers_differ.ensures in
    let lives = rw (← c.self.view_is) at c.requires.lives in
    rw (← c.self.view_is)
    (record {
      now = λ change gives image.
          all.now image ∙ thread_changed v image c.args.number (stands row) change same lives (changes_found change stands (find (λ (thread : Thread). thread.number == c.args.number) (threads_in v)) row (thread_found v c.args.number (Some row) found) gives);
      rows = all.rows;
      stages = all.stages;
      objects = all.objects;
      here = thread_here (with_threads v c.move_to.new.self c.stage_held.new.pages) c.args.number held.staged.here;
    })

pub stage_held-requires-clause-there : goal.stage_held-requires-clause-there
stage_held-requires-clause-there c = ap is_some (c.move_to.ensures.there c.in-Some._row.now (sym c.in-Some.ensures.found))

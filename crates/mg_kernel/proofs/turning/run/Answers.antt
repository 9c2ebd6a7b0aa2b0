use Rattle.{mg_calls_dom.specs.Fetching.{Fetches, fetch_limit}, mg_kernel.proofs.TurnCounts.{fetch-call, fetch-failed, fetch-within}}
use Rattle.mg_kernel.proofs.Turned.{asked-by, living-row, ready-row, row-lives, row-still, row-thread, row-told, serves-stages, turned-backed}
use Rattle.{mg_kernel.{proofs.Turned.turned-state, specs.Calls.{IsRowOf, KeepsCall, KeepsTurn, call_limit}}, mg_model.specs.Access.allowed}
use Rattle.{mg_model.specs.{Objects.word_at, State.ThreadRow, Turn.thread_call, declared.rights.Right.TheVariants.X}, mg_script.specs.Effects.begun}
use Rattle.{mg_script.specs.Turns.turn_call, mg_vcache.specs.Seats.is_kept, mg_volume.specs.{Meaning.now_of, RunLemmas.{serves_wider, then_serves}}}
use Rattle.std.{proofs.Common.{ap, arith, subst, sym, ◌∙◌, rules}, specs.{Option.ForSome, Prelude.{◌≡◌, ◌≤◌, ◌+◌, if◌then◌else◌, Some, None}}}
use Rattle.mg_kernel.proofs.turning.run.Goals as goal

pub dispatch-requires-clause-backed : goal.dispatch-requires-clause-backed
dispatch-requires-clause-backed g c image told = c.fetch.ensures.backed image (sym c.fetch.ensures.reads.writes.same ∙ told)

pub dispatch-requires-clause-lives : goal.dispatch-requires-clause-lives
dispatch-requires-clause-lives g c =
    let has = living-row c.args.volume.now c.args.thread c.requires.lives in
    let row = has.0 in
    let found = has.1 in
    row-lives c.fetch.new.volume c.args.thread row (row-still c.args.volume.now c.fetch.new.volume c.args.thread row c.fetch.ensures.reads.keeps found)

pub asked-effect-requires : goal.asked-effect-requires
asked-effect-requires g c =
    let has = living-row c.args.volume.now c.args.thread c.requires.lives in
    record { lives = row-lives c.fetch.new.volume c.args.thread has.0 (row-still c.args.volume.now c.fetch.new.volume c.args.thread has.0 c.fetch.ensures.reads.keeps has.1) }

pub returns-in-Ok-dispatch : goal.returns-in-Ok-dispatch
returns-in-Ok-dispatch g c =
    let (row, found) = living-row c.args.volume.now c.args.thread c.requires.lives in
    let reads = c.fetch.ensures.reads in
    let asks = c.asked-effect.ensures.asks row (row-still c.args.volume.now c.fetch.new.volume c.args.thread row reads.keeps found) in
    let keeps : (row : ThreadRow) → IsRowOf c.args.volume.now c.args.thread row → ForSome (g.D.Disk.seen c.args.disk.now) (λ image. KeepsTurn (now_of c.args.volume.now image) (record { number = c.args.thread; row = row }) (λ key. is_kept c.args.cache.now key) (λ key. is_kept c.dispatch.new.cache key) c.args.steps.now c.dispatch.new.steps) = λ row found image told.
    let asks = c.asked-effect.ensures.asks row (row-still c.args.volume.now c.fetch.new.volume c.args.thread row c.fetch.ensures.reads.keeps found) in
    let state = now_of c.args.volume.now image in
    let word = subst (λ a. c.in-Ok.fetched ≡ (if allowed state c.args.thread a X then Some (word_at state.objects a) else None)) (c.pc_of-pc.ensures.value row found) (c.in-Ok.ensures.word image told) in
    let makes : c.asked-effect.result.1 ≡ turn_call state c.args.thread row = asks.value ∙ asks.call ∙ ap (λ w. begun row w) word in
    let fetched = subst (λ a. Fetches state (record { thread = c.args.thread; address = a; right = X }) (λ key. is_kept c.args.cache.now key) (λ key. is_kept c.fetch.new.cache key) c.args.steps.now c.fetch.new.steps) (c.pc_of-pc.ensures.value row found) (c.in-Ok.ensures.keeps image told) in
    let lives = row-thread c.fetch.new.volume c.args.thread row (row-still c.args.volume.now c.fetch.new.volume c.args.thread row reads.keeps found) image in
    let called = subst (λ s. KeepsCall s c.args.thread c.asked-effect.result.1 (λ key. is_kept c.fetch.new.cache key) (λ key. is_kept c.dispatch.new.cache key) c.fetch.new.steps c.dispatch.new.steps) (reads.keeps.now image) (c.in-Ok-dispatch.ensures.keeps image (reads.writes.same ∙ told) lives) in
    fetch-call state c.args.thread row (c.turns_search_as_calls.ensures state c.args.thread row) (λ key. is_kept c.args.cache.now key) (λ key. is_kept c.fetch.new.cache key) (λ key. is_kept c.dispatch.new.cache key) c.args.steps.now c.fetch.new.steps c.dispatch.new.steps
    c.accesses_go_on.ensures.rules c.accesses_go_on.ensures.limit fetched
    (subst (λ m. KeepsCall state c.args.thread m (λ key. is_kept c.fetch.new.cache key) (λ key. is_kept c.dispatch.new.cache key) c.fetch.new.steps c.dispatch.new.steps) makes called) in
    record {
      state = λ image told.
          let state = now_of c.args.volume.now image in
          let there = row-told c.args.volume.now c.args.thread row found image in
          let word = subst (λ a. c.in-Ok.fetched ≡ (if allowed state c.args.thread a X then Some (word_at state.objects a) else None)) (c.pc_of-pc.ensures.value row found) (c.in-Ok.ensures.word image told) in
          let asked = asked-by state c.args.thread row c.in-Ok.fetched c.asked-effect.result.0 c.asked-effect.result.1 word asks.turn asks.call asks.frames asks.value c.asked-effect.ensures.spelled in
          let answer = subst (λ s. thread_call s c.args.thread c.asked-effect.result.1 ≡ (now_of c.dispatch.new.volume image, c.in-Ok-dispatch.reply)) (reads.keeps.now image) (c.in-Ok-dispatch.ensures.answers image (reads.writes.same ∙ told)) in
          turned-state state (now_of c.dispatch.new.volume image) (now_of c.go_on.new.volume image) c.args.thread row c.asked-effect.result.0 c.asked-effect.result.1 c.in-Ok-dispatch.reply (c.requires.sound.formed image told) there
          (ready-row state c.args.thread row there (c.requires.ready image told)) asked asks.value answer (c.go_on.ensures.now image) c.turns_are_calls.ensures.states;
      left = search rules;
      failed = tt;
      backed = λ image told.
          let state = now_of c.args.volume.now image in
          let there = row-told c.args.volume.now c.args.thread row found image in
          let word = subst (λ a. c.in-Ok.fetched ≡ (if allowed state c.args.thread a X then Some (word_at state.objects a) else None)) (c.pc_of-pc.ensures.value row found) (c.in-Ok.ensures.word image told) in
          let asked = asked-by state c.args.thread row c.in-Ok.fetched c.asked-effect.result.0 c.asked-effect.result.1 word asks.turn asks.call asks.frames asks.value c.asked-effect.ensures.spelled in
          let answer = subst (λ s. thread_call s c.args.thread c.asked-effect.result.1 ≡ (now_of c.dispatch.new.volume image, c.in-Ok-dispatch.reply)) (reads.keeps.now image) (c.in-Ok-dispatch.ensures.answers image (reads.writes.same ∙ told)) in
          turned-backed state (now_of c.dispatch.new.volume image) (now_of c.go_on.new.volume image) c.args.thread row c.asked-effect.result.0 c.asked-effect.result.1 c.in-Ok-dispatch.reply (c.requires.sound.formed image told) there
          (ready-row state c.args.thread row there (c.requires.ready image told)) asked asks.value answer (c.go_on.ensures.now image) c.turns_are_calls.ensures.backed c.dispatch.new.cache (c.dispatch.ensures.backed image (reads.writes.same ∙ told));
      keeps = keeps;
      limit = λ row found image told. (keeps row found image told).most;
      serves =
          serves-stages g.D.Disk 130 1 c.args.volume.now c.dispatch.new.volume c.go_on.new.volume c.args.disk.now c.dispatch.new.disk c.args.steps.now c.dispatch.new.steps
          (then_serves g.D.Disk 130 c.args.volume.now c.fetch.new.volume c.dispatch.new.volume c.args.disk.now c.fetch.new.disk c.dispatch.new.disk c.args.steps.now c.fetch.new.steps c.dispatch.new.steps c.fetch.ensures.reads c.dispatch.ensures.serves)
          c.go_on.ensures.stages;
      cause = tt;
    }

pub returns-in-Err-dispatch : goal.returns-in-Err-dispatch
returns-in-Err-dispatch g c = record {
  state = tt;
  left = tt;
  failed = search rules;
  backed = λ image told. c.dispatch.ensures.backed image (c.fetch.ensures.reads.writes.same ∙ told);
  keeps = tt;
  limit = λ row found image told.
      let asks = c.asked-effect.ensures.asks row (row-still c.args.volume.now c.fetch.new.volume c.args.thread row c.fetch.ensures.reads.keeps found) in
      let state = now_of c.args.volume.now image in
      let reads = c.fetch.ensures.reads in
      let word = subst (λ a. c.in-Ok.fetched ≡ (if allowed state c.args.thread a X then Some (word_at state.objects a) else None)) (c.pc_of-pc.ensures.value row found) (c.in-Ok.ensures.word image told) in
      let makes : c.asked-effect.result.1 ≡ turn_call state c.args.thread row = asks.value ∙ asks.call ∙ ap (λ w. begun row w) word in
      let fetched = subst (λ a. Fetches state (record { thread = c.args.thread; address = a; right = X }) (λ key. is_kept c.args.cache.now key) (λ key. is_kept c.fetch.new.cache key) c.args.steps.now c.fetch.new.steps) (c.pc_of-pc.ensures.value row found) (c.in-Ok.ensures.keeps image told) in
      let lives = row-thread c.fetch.new.volume c.args.thread row (row-still c.args.volume.now c.fetch.new.volume c.args.thread row reads.keeps found) image in
      let few = subst (λ s. c.dispatch.new.steps ≤ c.fetch.new.steps + call_limit (λ key. is_kept c.fetch.new.cache key) s c.args.thread c.asked-effect.result.1) (reads.keeps.now image) (c.dispatch.ensures.limit image (reads.writes.same ∙ told) lives) in
      fetch-within state c.args.thread row (c.turns_search_as_calls.ensures state c.args.thread row) (λ key. is_kept c.args.cache.now key) (λ key. is_kept c.fetch.new.cache key) c.args.steps.now c.fetch.new.steps c.dispatch.new.steps
      c.accesses_go_on.ensures.limit fetched
      (subst (λ m. c.dispatch.new.steps ≤ c.fetch.new.steps + call_limit (λ key. is_kept c.fetch.new.cache key) state c.args.thread m) makes few);
  serves =
      serves_wider g.D.Disk 130 131 c.args.volume.now c.dispatch.new.volume c.args.disk.now c.dispatch.new.disk c.args.steps.now c.dispatch.new.steps (omega arith)
      (then_serves g.D.Disk 130 c.args.volume.now c.fetch.new.volume c.dispatch.new.volume c.args.disk.now c.fetch.new.disk c.dispatch.new.disk c.args.steps.now c.fetch.new.steps c.dispatch.new.steps c.fetch.ensures.reads c.dispatch.ensures.serves);
  cause = search rules;
}

pub returns-in-Err : goal.returns-in-Err
returns-in-Err g c = record {
  state = tt;
  left = tt;
  failed = search rules;
  backed = search rules;
  keeps = tt;
  limit = λ row found image told.
      let state = now_of c.args.volume.now image in
      fetch-failed state c.args.thread row (c.turns_search_as_calls.ensures state c.args.thread row) (λ key. is_kept c.args.cache.now key) c.args.steps.now c.fetch.new.steps
      (subst (λ a. c.fetch.new.steps ≤ c.args.steps.now + fetch_limit (λ key. is_kept c.args.cache.now key) state (record { thread = c.args.thread; address = a; right = X })) (c.pc_of-pc.ensures.value row found) (c.fetch.ensures.limit image told));
  serves = search rules;
  cause = search rules;
}

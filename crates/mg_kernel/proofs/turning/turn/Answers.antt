use Rattle.mg_kernel.proofs.{Threads.gone, TurnCounts.{gone-turn, row-found, turn-line, turn-within, unready-turn}, Turned.{row-lives, row-ready}}
use Rattle.{mg_kernel.proofs.Turned.{row-thread, row-told, turn-ready, turn-refused, unmapped}, mg_model.specs.{State.Thread, Turn.turn}}
use Rattle.{mg_vcache.specs.Seats.is_kept, mg_volume.specs.{Meaning.{now_of, threads_in}, RunLemmas.told_thread}, std.proofs.Common.{refl, sym, ◌∙◌}}
use Rattle.std.{proofs.Common.rules, specs.Prelude.{◌==◌, find}}
use Rattle.mg_kernel.proofs.turning.turn.Goals as goal

pub run-requires-clause-ready : goal.run-requires-clause-ready
run-requires-clause-ready g c image told =
    row-ready (now_of c.args.volume.now image) c.args.thread c.in-Some.row.now c.in-Some.row.now.state (row-told c.args.volume.now c.args.thread c.in-Some.row.now c.in-Some.ensures.found image) refl ∙ sym c.takes_turns.ensures ∙ c.if-not-takes_turns.false

pub returns-then-not-takes_turns : goal.returns-then-not-takes_turns
returns-then-not-takes_turns g c = record {
  answers = λ image told.
      let state = now_of c.args.volume.now image in
      let there = row-told c.args.volume.now c.args.thread c.in-Some.row.now c.in-Some.ensures.found image in
      turn-refused state c.args.thread (row-thread c.args.volume.now c.args.thread c.in-Some.row.now c.in-Some.ensures.found image)
      (row-ready state c.args.thread c.in-Some.row.now c.in-Some.row.now.state there refl ∙ sym c.takes_turns.ensures ∙ c.if-not-takes_turns.true);
  refused = search rules;
  failed = search rules;
  slots = search rules;
  backed = search rules;
  keeps = λ image told.
      let state = now_of c.args.volume.now image in
      let there = row-told c.args.volume.now c.args.thread c.in-Some.row.now c.in-Some.ensures.found image in
      unready-turn state c.args.thread (λ key. is_kept c.args.cache.now key) c.args.steps.now (row-ready state c.args.thread c.in-Some.row.now c.in-Some.row.now.state there refl ∙ sym c.takes_turns.ensures ∙ c.if-not-takes_turns.true);
  limit = search rules;
  serves = search rules;
  cause = search rules;
}

pub returns-in-Ok : goal.returns-in-Ok
returns-in-Ok g c = record {
  answers = λ image told.
      let state = now_of c.args.volume.now image in
      let there = row-told c.args.volume.now c.args.thread c.in-Some.row.now c.in-Some.ensures.found image in
      turn-ready state c.args.thread (row-thread c.args.volume.now c.args.thread c.in-Some.row.now c.in-Some.ensures.found image) (now_of c.run.new.volume image) c.in-Ok.left (row-ready state c.args.thread c.in-Some.row.now c.in-Some.row.now.state there refl ∙ sym c.takes_turns.ensures ∙ c.if-not-takes_turns.false)
      (c.in-Ok.ensures.state image told) (c.in-Ok.ensures.left image told);
  refused = search rules;
  failed = search rules;
  slots = search rules;
  backed = search rules;
  keeps = λ image told.
      let state = now_of c.args.volume.now image in
      let there = row-told c.args.volume.now c.args.thread c.in-Some.row.now c.in-Some.ensures.found image in
      turn-line state c.args.thread (record { number = c.args.thread; row = c.in-Some.row.now }) (row-found state c.args.thread c.in-Some.row.now there) (row-ready state c.args.thread c.in-Some.row.now c.in-Some.row.now.state there refl ∙ sym c.takes_turns.ensures ∙ c.if-not-takes_turns.false) (λ key. is_kept c.args.cache.now key) (λ key. is_kept c.run.new.cache key) c.args.steps.now c.run.new.steps
      (c.in-Ok.ensures.keeps c.in-Some.row.now c.in-Some.ensures.found image told);
  limit = λ image told.
      let state = now_of c.args.volume.now image in
      let there = row-told c.args.volume.now c.args.thread c.in-Some.row.now c.in-Some.ensures.found image in
      turn-within state c.args.thread (record { number = c.args.thread; row = c.in-Some.row.now }) (row-found state c.args.thread c.in-Some.row.now there) (row-ready state c.args.thread c.in-Some.row.now c.in-Some.row.now.state there refl ∙ sym c.takes_turns.ensures ∙ c.if-not-takes_turns.false) (λ key. is_kept c.args.cache.now key) c.args.steps.now c.run.new.steps
      (c.run.ensures.limit c.in-Some.row.now c.in-Some.ensures.found image told);
  serves = search rules;
  cause = search rules;
}

pub returns-in-Err : goal.returns-in-Err
returns-in-Err g c = record {
  answers = search rules;
  refused = search rules;
  failed = search rules;
  slots = search rules;
  backed = search rules;
  keeps = search rules;
  limit = λ image told.
      let state = now_of c.args.volume.now image in
      let there = row-told c.args.volume.now c.args.thread c.in-Some.row.now c.in-Some.ensures.found image in
      turn-within state c.args.thread (record { number = c.args.thread; row = c.in-Some.row.now }) (row-found state c.args.thread c.in-Some.row.now there) (row-ready state c.args.thread c.in-Some.row.now c.in-Some.row.now.state there refl ∙ sym c.takes_turns.ensures ∙ c.if-not-takes_turns.false) (λ key. is_kept c.args.cache.now key) c.args.steps.now c.run.new.steps
      (c.run.ensures.limit c.in-Some.row.now c.in-Some.ensures.found image told);
  serves = search rules;
  cause = search rules;
}

pub returns-in-None : goal.returns-in-None
returns-in-None g c = record {
  answers = λ image told.
      gone c.args.volume.now image c.args.thread (turn (now_of c.args.volume.now image) c.args.thread) (unmapped (find (λ (thread : Thread). thread.number == c.args.thread) (threads_in c.args.volume.now)) c.in-None.ensures.found);
  refused = search rules;
  failed = search rules;
  slots = search rules;
  backed = search rules;
  keeps = λ image told.
      gone-turn (now_of c.args.volume.now image) c.args.thread (λ key. is_kept c.args.cache.now key) c.args.steps.now
      (told_thread c.args.volume.now image c.args.thread _ (unmapped (find (λ (thread : Thread). thread.number == c.args.thread) (threads_in c.args.volume.now)) c.in-None.ensures.found));
  limit = search rules;
  serves = search rules;
  cause = search rules;
}

pub run-requires-clause-lives : goal.run-requires-clause-lives
run-requires-clause-lives g c = row-lives c.args.volume.now c.args.thread c.in-Some.row.now c.in-Some.ensures.found

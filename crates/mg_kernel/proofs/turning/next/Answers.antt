use Rattle.mg_kernel.proofs.{NextTurn.{cursor-backed, next-runs, picked-held, picked-row, picks}, TurnCounts.{next-line, next-within}}
use Rattle.{mg_kernel.proofs.Turned.{row-lives, row-told}, mg_vcache.specs.Seats.is_kept, mg_volume.specs.Meaning.now_of, std.proofs.Common.rules}
use Rattle.mg_kernel.proofs.turning.next.Goals as goal

pub unreachable-requires : goal.unreachable-requires
unreachable-requires g c = picked-held c.args.volume.now c.in-Some.n (λ image. c.in-Some.ensures image) c.in-None.ensures.found

pub returns-in-Ok : goal.returns-in-Ok
returns-in-Ok g c t = record {
  answers = λ image told.
      let state = now_of c.args.volume.now image in
      next-runs state c.in-Some.n (picks state c.in-Some.n (c.in-Some.ensures image)) (now_of c.run.new.volume image) (now_of c.move_cursor.new.volume image) c.in-Ok.left c.turns_rest_on_no_cursor.ensures (c.in-Ok.ensures.state image told)
      (c.in-Ok.ensures.left image told) (c.move_cursor.ensures.now image);
  refused = search rules;
  failed = search rules;
  slots = search rules;
  backed = λ image told.
      cursor-backed (now_of c.run.new.volume image) (now_of c.move_cursor.new.volume image) c.in-Some.n c.run.new.cache c.backing_rests_on_the_domain.ensures.rests (c.move_cursor.ensures.now image) (c.run.ensures.backed image told);
  keeps = λ image told.
      let state = now_of c.args.volume.now image in
      let there = row-told c.args.volume.now c.in-Some.n c.in-Some-thread_ref._row.now c.in-Some-thread_ref.ensures.found image in
      next-line state t (record { number = c.in-Some.n; row = c.in-Some-thread_ref._row.now }) (picked-row state c.in-Some.n c.in-Some-thread_ref._row.now (c.requires.sound.formed image told) (picks state c.in-Some.n (c.in-Some.ensures image)) there) (λ key. is_kept c.args.cache.now key)
      (λ key. is_kept c.run.new.cache key) c.args.steps.now c.run.new.steps (c.in-Ok.ensures.keeps c.in-Some-thread_ref._row.now c.in-Some-thread_ref.ensures.found image told);
  limit = λ image told.
      let state = now_of c.args.volume.now image in
      let there = row-told c.args.volume.now c.in-Some.n c.in-Some-thread_ref._row.now c.in-Some-thread_ref.ensures.found image in
      next-within state t (record { number = c.in-Some.n; row = c.in-Some-thread_ref._row.now }) (picked-row state c.in-Some.n c.in-Some-thread_ref._row.now (c.requires.sound.formed image told) (picks state c.in-Some.n (c.in-Some.ensures image)) there) (λ key. is_kept c.args.cache.now key)
      c.args.steps.now c.run.new.steps (c.run.ensures.limit c.in-Some-thread_ref._row.now c.in-Some-thread_ref.ensures.found image told);
  serves = search rules;
  cause = search rules;
}

pub returns-in-Err : goal.returns-in-Err
returns-in-Err g c t = record {
  answers = search rules;
  refused = search rules;
  failed = search rules;
  slots = search rules;
  backed = search rules;
  keeps = search rules;
  limit = λ image told.
      let state = now_of c.args.volume.now image in
      let there = row-told c.args.volume.now c.in-Some.n c.in-Some-thread_ref._row.now c.in-Some-thread_ref.ensures.found image in
      next-within state t (record { number = c.in-Some.n; row = c.in-Some-thread_ref._row.now }) (picked-row state c.in-Some.n c.in-Some-thread_ref._row.now (c.requires.sound.formed image told) (picks state c.in-Some.n (c.in-Some.ensures image)) there) (λ key. is_kept c.args.cache.now key)
      c.args.steps.now c.run.new.steps (c.run.ensures.limit c.in-Some-thread_ref._row.now c.in-Some-thread_ref.ensures.found image told);
  serves = search rules;
  cause = search rules;
}

pub run-requires-clause-lives : goal.run-requires-clause-lives
run-requires-clause-lives g c = row-lives c.args.volume.now c.in-Some.n c.in-Some-thread_ref._row.now c.in-Some-thread_ref.ensures.found

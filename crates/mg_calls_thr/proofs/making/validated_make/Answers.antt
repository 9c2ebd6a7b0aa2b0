use Rattle.mg_access.specs.{LineLemmas.{keeps_line, limit_line}, ReachedLemmas.same_threads, Searching.access_refusal, Served.of_call}
use Rattle.{mg_access.specs.ServedLemmas.{read_call, reads_serves}, mg_calls_thr.proofs.Made.{make-denied, making-backed, no-words}}
use Rattle.mg_model.specs.{State.Thread, Threads.make_thread, WellFormed.IsWellFormed, declared.{calls.Line.Line, replies.Reply.TheVariants.No}}
use Rattle.{mg_model.specs.declared.rights.Right.TheVariants.X, mg_vcache.specs.Seats.{AllBacked, is_kept}, mg_volume.specs.Meaning.now_of}
use Rattle.{mg_volume.specs.{Meaning.staged_in, RunLemmas.then_stages}, std.proofs.Common.{◌-◌, arith, sym, ap, subst, ◌∙◌, rules}}
use Rattle.std.specs.{List.list_any, Option.ForSome, Prelude.{◌≡◌, ◌==◌}}
use Rattle.mg_model.specs.declared.calls.Call.TheVariants as call
use Rattle.mg_calls_thr.proofs.making.validated_make.Goals as goal

pub make-requires-clause-lives : goal.make-requires-clause-lives
make-requires-clause-lives g c =
    ap (λ threads. list_any (λ (thread : Thread). thread.number == c.args.thread) threads) (same_threads c.args.volume.now c.word_object.new.volume c.word_object.ensures.finds.reads.keeps) ∙ c.requires.lives

pub returns-in-Ok : goal.returns-in-Ok
returns-in-Ok g c =
    let answers : ForSome (g.D.Disk.seen c.args.disk.now) (λ image. make_thread (now_of c.args.volume.now image) c.args.thread c.args.pc ≡ (now_of c.make.new.volume image, c.make.result)) = λ image told.
    let same = c.word_object.ensures.finds.reads.keeps.now image in
    let sound = c.word_object.ensures.finds.reads.sound c.requires.sound in
    let refusal = rw c.in-Ok.is at (c.in_ok-word_object.ensures.refusal image told) in
    ap (λ s. make_thread s c.args.thread c.args.pc) (sym same)
    ∙ c.make.ensures.answers image (sound.stands.fits image (c.word_object.ensures.finds.reads.writes.same ∙ told)) (subst IsWellFormed (sym same) (c.requires.sound.formed image told)) (ap (λ s. access_refusal s c.args.thread c.args.pc X) same ∙ refusal) in
    record {
      answers = answers;
      refused = λ refused. ap staged_in (c.make.ensures.refused refused) ∙ c.word_object.ensures.finds.reads.keeps.writes;
      failed = search rules;
      slots = c.make.ensures.slots;
      backed = λ image told.
          making-backed (now_of c.args.volume.now image) c.args.thread c.args.pc (now_of c.make.new.volume image) c.make.result c.word_object.new.cache (answers image told) (c.requires.sound.formed image told) c.steps_keep_backing.ensures.calls
          (subst (λ s. AllBacked s c.word_object.new.cache) (c.word_object.ensures.finds.reads.keeps.now image) (c.word_object.ensures.finds.backed image told));
      keeps = λ image told.
          let state = now_of c.args.volume.now image in
          let line : Line = record { thread = c.args.thread; call = call.Thread c.args.pc } in
          let own = no-words state c.args.thread c.args.pc in
          let (n, rose, words) = c.word_object.ensures.finds.reads.counted in
          keeps_line state line (λ key. is_kept c.args.cache.now key) (λ key. is_kept c.word_object.new.cache key) c.args.steps.now c.word_object.new.steps (c.word_object.new.steps - c.args.steps.now) (c.in_ok-word_object.ensures.finds.rules image told) (omega arith);
      limit = λ image told.
          limit_line (now_of c.args.volume.now image) (record { thread = c.args.thread; call = call.Thread c.args.pc }) (λ key. is_kept c.args.cache.now key) c.args.steps.now c.word_object.new.steps (c.word_object.ensures.finds.limit image told);
      serves = then_stages g.D.Disk 2 c.args.volume.now c.word_object.new.volume c.make.new.volume c.args.disk.now c.word_object.new.disk c.args.steps.now c.word_object.new.steps c.word_object.ensures.finds.reads c.make.ensures.stages;
      cause = search rules;
    }

pub returns-in-Err : goal.returns-in-Err
returns-in-Err g c =
    let made = call.Thread c.args.pc in
    reads_serves g.D.Disk c.args.volume.now c.word_object.new.volume c.args.cache.now c.word_object.new.cache c.args.disk.now c.word_object.new.disk c.args.steps.now c.word_object.new.steps 2 (of_call c.args.thread made) _
    (read_call g.D.Disk c.args.volume.now c.word_object.new.volume c.args.cache.now c.word_object.new.cache c.args.disk.now c.word_object.new.disk c.args.steps.now c.word_object.new.steps c.args.thread made (No c.in-Err.word) tt
    (λ image told. make-denied (now_of c.args.volume.now image) c.args.thread c.args.pc c.in-Err.word (rw c.in-Err.is at (c.in_ok-word_object.ensures.refusal image told)))
    c.word_object.ensures.finds.backed c.in_ok-word_object.ensures.finds.rules (λ image told. no-words (now_of c.args.volume.now image) c.args.thread c.args.pc) c.word_object.ensures.finds.reads)

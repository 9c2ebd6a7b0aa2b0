use Rattle.mg_access.specs.{LineLemmas.drops_line, ReachedLemmas.{reached_at, reached_lives, same_threads}, Searching.access_refusal, Served.of_call}
use Rattle.{mg_access.specs.ServedLemmas.{read_call, reads_serves}, mg_calls_dom.proofs.Entered.{entering-backed, entering-disturbs, no-words}}
use Rattle.{mg_calls_dom.proofs.Entered.pdx-denied, mg_model.specs.{Domains.pdx, Kept.KeepsLine, ObjectCalls.row_at, State.Thread}}
use Rattle.mg_model.specs.declared.{calls.Line.Line, replies.Reply.TheVariants.{Count, No}, rights.Right.TheVariants.P}
use Rattle.{mg_vcache.specs.Seats.{AllBacked, is_kept}, mg_volume.specs.{Meaning.now_of, RunLemmas.then_stages}, std.proofs.Common.{◌-◌, arith, sym}}
use Rattle.std.{proofs.Common.{ap, subst, ◌∙◌, rules}, specs.{List.list_any, Option.ForSome, Prelude.{◌≡◌, ◌==◌}}}
use Rattle.mg_model.specs.declared.calls.Call.TheVariants as call
use Rattle.mg_calls_dom.proofs.frames.pdx.Goals as goal

pub step_in-requires-clause-lives : goal.step_in-requires-clause-lives
step_in-requires-clause-lives g c =
    ap (λ threads. list_any (λ (thread : Thread). thread.number == c.args.thread) threads) (same_threads c.args.volume.now c.word_object.new.volume c.word_object.ensures.finds.reads.keeps) ∙ c.requires.lives

pub returns-in-Ok-step_in : goal.returns-in-Ok-step_in
returns-in-Ok-step_in g c =
    let line : Line = record { thread = c.args.thread; call = call.Pdx c.args.address c.args.mask } in
    let reads = c.word_object.ensures.finds.reads in
    let answers : ForSome (g.D.Disk.seen c.args.disk.now) (λ image. pdx (now_of c.args.volume.now image) c.args.thread c.args.address c.args.mask ≡ (now_of c.step_in.new.volume image, Count c.in-Ok-step_in.count)) = λ image told.
    let state = now_of c.args.volume.now image in
    let same = reads.keeps.now image in
    let refusal = rw c.in-Ok.is at (c.in_ok-object.ensures.refusal image told) in
    let found = (rw c.in-Ok.is at c.in_ok-object.ensures.row) image told in
    ap (λ s. pdx s c.args.thread c.args.address c.args.mask) (sym same)
    ∙ c.in-Ok-step_in.ensures.answers image (ap (λ s. access_refusal s c.args.thread c.args.address P) same ∙ refusal) (ap (λ s. row_at s c.args.address) same ∙ reached_at state c.args.thread c.args.address P c.in-Ok.object found) in
    let keeps : ForSome (g.D.Disk.seen c.args.disk.now) (λ image. KeepsLine (now_of c.args.volume.now image) line (λ key. is_kept c.args.cache.now key) (λ key. is_kept c.step_in.new.cache key) c.args.steps.now c.word_object.new.steps) = λ image told.
    let state = now_of c.args.volume.now image in
    let found = (rw c.in-Ok.is at c.in_ok-object.ensures.row) image told in
    let (n, rose, words) = reads.counted in
    let own = no-words state c.args.thread c.args.address c.args.mask in
    let loud = entering-disturbs state c.args.thread c.args.address c.args.mask (now_of c.step_in.new.volume image) c.in-Ok-step_in.count (answers image told)
    (reached_lives state c.args.thread c.args.address P c.in-Ok.object found) in
    drops_line state line (λ key. is_kept c.args.cache.now key) (λ key. is_kept c.step_in.new.cache key) c.args.steps.now c.word_object.new.steps (c.word_object.new.steps - c.args.steps.now)
    (λ quiet. cc) (c.in_ok-object.ensures.finds.rules image told).few (omega arith) in
    record {
      answers = answers;
      refused = search rules;
      failed = search rules;
      slots = search rules;
      backed = λ image told.
          entering-backed (now_of c.args.volume.now image) c.args.thread c.args.address c.args.mask (now_of c.step_in.new.volume image) c.in-Ok-step_in.count (answers image told)
          c.word_object.new.cache c.step_in.new.cache (c.requires.sound.formed image told) c.steps_keep_backing.ensures.calls c.in-Ok-step_in.ensures.seats
          (subst (λ s. AllBacked s c.word_object.new.cache) (reads.keeps.now image) (c.word_object.ensures.finds.backed image told));
      keeps = keeps;
      limit = λ image told. (keeps image told).most;
      serves = then_stages g.D.Disk 1 c.args.volume.now c.word_object.new.volume c.step_in.new.volume c.args.disk.now c.word_object.new.disk c.args.steps.now c.word_object.new.steps reads c.step_in.ensures.stages;
      cause = search rules;
    }

pub returns-in-Err-step_in : goal.returns-in-Err-step_in
returns-in-Err-step_in g c = record {
  answers = search rules;
  refused = search rules;
  failed = search rules;
  slots = search rules;
  backed = search rules;
  keeps = search rules;
  limit = search rules;
  serves = search rules;
  cause = search rules;
}

pub returns-in-Err : goal.returns-in-Err
returns-in-Err g c =
    let made = call.Pdx c.args.address c.args.mask in
    reads_serves g.D.Disk c.args.volume.now c.word_object.new.volume c.args.cache.now c.word_object.new.cache c.args.disk.now c.word_object.new.disk c.args.steps.now c.word_object.new.steps 1 (of_call c.args.thread made) _
    (read_call g.D.Disk c.args.volume.now c.word_object.new.volume c.args.cache.now c.word_object.new.cache c.args.disk.now c.word_object.new.disk c.args.steps.now c.word_object.new.steps c.args.thread made (No c.in-Err.word) tt
    (λ image told. pdx-denied (now_of c.args.volume.now image) c.args.thread c.args.address c.args.mask c.in-Err.word (rw c.in-Err.is at (c.in_ok-object.ensures.refusal image told)))
    c.word_object.ensures.finds.backed c.in_ok-object.ensures.finds.rules (λ image told. no-words (now_of c.args.volume.now image) c.args.thread c.args.address c.args.mask) c.word_object.ensures.finds.reads)

use Rattle.mg_access.specs.{LineLemmas.{drops_line, limit_line}, Searching.word_accesses, Served.of_call, ServedLemmas.{read_call, reads_serves}}
use Rattle.mg_calls_dom.proofs.Words.{dropped-at, dropped-keys, no-word, own-word, stored-backed, word-address}
use Rattle.mg_model.specs.{Abbreviations.unless_refused, Accesses.line_words, Kept.KeepsLine, ObjectCalls.store, Objects.with_word, State.State}
use Rattle.mg_model.specs.declared.{calls.Line.Line, replies.Reply.TheVariants.{Done, No}, rights.Right.TheVariants.W}
use Rattle.{mg_vcache.specs.Seats.{AllBacked, is_kept}, mg_volume.specs.{Meaning.now_of, RunLemmas.then_serves}, std.proofs.Common.{◌≡◌, ◌+◌, ◌-◌}}
use Rattle.std.{proofs.Common.{◌*◌, arith, sym, ap, subst, ◌∙◌, rules}, specs.Option.ForSome}
use Rattle.mg_model.specs.declared.calls.Call.TheVariants as call
use Rattle.mg_calls_dom.proofs.access.store.Goals as goal

pub returns-in_ok-set_word-in-Ok : goal.returns-in_ok-set_word-in-Ok
returns-in_ok-set_word-in-Ok g c =
    let line : Line = record { thread = c.args.thread; call = call.Store c.args.address c.args.value } in
    let reads = c.word_base.ensures.finds.reads in
    let answers : ForSome (g.D.Disk.seen c.args.disk.now) (λ image. store (now_of c.args.volume.now image) c.args.thread c.args.address c.args.value ≡ (now_of c.set_word.new.self image, Done)) = λ image told.
    let state = now_of c.args.volume.now image in
    let refusal = rw c.in-Ok.is at (c.in_ok-base.ensures.refusal image told) in
    let (there, above, aligned) = rw c.in-Ok.is at c.in_ok-base.ensures.place in
    let address = word-address c.args.address c.page_of.result c.index_of.result c.page_of.ensures c.index_of.ensures aligned in
    let sets = c.in_ok-set_word-in-Ok.ensures.sets image (reads.writes.same ∙ told)
    ∙ ap (λ (s : State). record s { objects = with_word s.objects (4096 * c.page_of.result + 8 * c.index_of.result) c.args.value }) (reads.keeps.now image) in
    ap (λ r. unless_refused r state (record state { objects = with_word state.objects c.args.address c.args.value }, Done)) refusal
    ∙ ap (λ a. (record state { objects = with_word state.objects a c.args.value }, Done)) (sym address)
    ∙ ap (λ s. (s, Done)) (sym sets) in
    let keeps : ForSome (g.D.Disk.seen c.args.disk.now) (λ image. KeepsLine (now_of c.args.volume.now image) line (λ key. is_kept c.args.cache.now key) (λ key. is_kept c.drop_written.new.cache key) c.args.steps.now c.set_word.new.steps) = λ image told.
    let state = now_of c.args.volume.now image in
    let refusal = rw c.in-Ok.is at (c.in_ok-base.ensures.refusal image told) in
    let reached = (rw c.in-Ok.is at c.in_ok-base.ensures.row) image told in
    let own : line_words state line ≡ 1 = own-word state c.args.thread c.args.address W reached.row reached.found refusal in
    let dropped = dropped-at c.args.address c.word_base.new.cache c.drop_written.new.cache c.in-Ok.base reached.row reached.is c.drop_written.ensures in
    let (n, rose, words) = reads.counted in
    let one = c.in_ok-set_word-in-Ok.ensures.counts in
    let rules = c.in_ok-base.ensures.finds.rules image told in
    drops_line state line (λ key. is_kept c.args.cache.now key) (λ key. is_kept c.drop_written.new.cache key) c.args.steps.now c.set_word.new.steps (c.word_base.new.steps - c.args.steps.now)
    (dropped-keys state c.args.thread c.args.address c.args.value reached.row reached.found (now_of c.set_word.new.self image) (word_accesses state c.args.thread c.args.address W) (λ key. is_kept c.args.cache.now key) c.word_base.new.cache c.drop_written.new.cache
    (answers image told) dropped rules.keys) rules.few (omega arith) in
    record {
      answers = answers;
      refused = search rules;
      failed = search rules;
      slots = search rules;
      backed = λ image told.
          let state = now_of c.args.volume.now image in
          let reached = (rw c.in-Ok.is at c.in_ok-base.ensures.row) image told in
          let dropped = dropped-at c.args.address c.word_base.new.cache c.drop_written.new.cache c.in-Ok.base reached.row reached.is c.drop_written.ensures in
          stored-backed state c.args.thread c.args.address c.args.value reached.row reached.found (now_of c.set_word.new.self image) c.word_base.new.cache c.drop_written.new.cache (c.requires.sound.formed image told) c.steps_keep_backing.ensures.calls c.stores_end_one_list.ensures
          (answers image told) dropped (subst (λ s. AllBacked s c.word_base.new.cache) (reads.keeps.now image) (c.word_base.ensures.finds.backed image told));
      keeps = keeps;
      limit = λ image told. (keeps image told).most;
      serves = then_serves g.D.Disk 2 c.args.volume.now c.word_base.new.volume c.set_word.new.self c.args.disk.now c.word_base.new.disk c.set_word.new.disk c.args.steps.now c.word_base.new.steps c.set_word.new.steps reads c.set_word.ensures.serves;
      cause = search rules;
    }

pub returns-in-Err : goal.returns-in-Err
returns-in-Err g c =
    let made = call.Store c.args.address c.args.value in
    reads_serves g.D.Disk c.args.volume.now c.word_base.new.volume c.args.cache.now c.word_base.new.cache c.args.disk.now c.word_base.new.disk c.args.steps.now c.word_base.new.steps 2 (of_call c.args.thread made) _
    (read_call g.D.Disk c.args.volume.now c.word_base.new.volume c.args.cache.now c.word_base.new.cache c.args.disk.now c.word_base.new.disk c.args.steps.now c.word_base.new.steps c.args.thread made (No c.in-Err.word) tt
    (λ image told.
    let state = now_of c.args.volume.now image in
    ap (λ r. unless_refused r state (record state { objects = with_word state.objects c.args.address c.args.value }, Done)) (rw c.in-Err.is at (c.in_ok-base.ensures.refusal image told)))
    c.word_base.ensures.finds.backed c.in_ok-base.ensures.finds.rules
    (λ image told. no-word (now_of c.args.volume.now image) c.args.thread c.args.address W c.in-Err.word (rw c.in-Err.is at (c.in_ok-base.ensures.refusal image told))) c.word_base.ensures.finds.reads)

pub returns-in_err-set_word-in-Ok : goal.returns-in_err-set_word-in-Ok
returns-in_err-set_word-in-Ok g c = record {
  answers = search rules;
  refused = search rules;
  failed = search rules;
  slots = search rules;
  backed = λ image told. subst (λ s. AllBacked s c.word_base.new.cache) (sym (c.in_err-set_word-in-Ok.ensures.sets.now image)) (c.word_base.ensures.finds.backed image told);
  keeps = search rules;
  limit = λ image told.
      let none = c.in_err-set_word-in-Ok.ensures.counts in
      limit_line (now_of c.args.volume.now image) (record { thread = c.args.thread; call = call.Store c.args.address c.args.value }) (λ key. is_kept c.args.cache.now key) c.args.steps.now c.set_word.new.steps (let few = c.word_base.ensures.finds.limit image told in omega arith);
  serves = then_serves g.D.Disk 2 c.args.volume.now c.word_base.new.volume c.set_word.new.self c.args.disk.now c.word_base.new.disk c.set_word.new.disk c.args.steps.now c.word_base.new.steps c.set_word.new.steps c.word_base.ensures.finds.reads c.set_word.ensures.serves;
  cause = search rules;
}

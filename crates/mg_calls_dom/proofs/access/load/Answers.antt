use Rattle.{mg_access.specs.{LineLemmas.{keeps_line, limit_line}, ServedLemmas.read_call}, mg_calls_dom.proofs.Words.{no-word, own-word}}
use Rattle.{mg_calls_dom.proofs.Words.word-address, mg_model.specs.{Abbreviations.unless_refused, Accesses.line_words, Kept.KeepsLine}}
use Rattle.mg_model.specs.{Objects.word_at, declared.{calls.Line.Line, replies.Reply.TheVariants.{No, Value}, rights.Right.TheVariants.R}}
use Rattle.{mg_vcache.specs.Seats.{AllBacked, is_kept}, mg_volume.specs.{Meaning.now_of, RunLemmas.{reads_then, told_since}}, std.proofs.Common.◌≡◌}
use Rattle.std.{proofs.Common.{◌+◌, ◌-◌, ◌*◌, arith, sym, ap, subst, ◌∙◌, rules}, specs.Option.ForSome}
use Rattle.mg_model.specs.declared.calls.Call.TheVariants as call
use Rattle.mg_calls_dom.proofs.access.load.Goals as goal

pub returns-in_ok-word-in-Ok : goal.returns-in_ok-word-in-Ok
returns-in_ok-word-in-Ok g c =
    let line : Line = record { thread = c.args.thread; call = call.Load c.args.address } in
    let keeps : ForSome (g.D.Disk.seen c.args.disk.now) (λ image. KeepsLine (now_of c.args.volume.now image) line (λ key. is_kept c.args.cache.now key) (λ key. is_kept c.word_base.new.cache key) c.args.steps.now c.word.new.steps) = λ image told.
    let state = now_of c.args.volume.now image in
    let refusal = rw c.in-Ok.is at (c.in_ok-word_base.ensures.refusal image told) in
    let reached = (rw c.in-Ok.is at c.in_ok-word_base.ensures.row) image told in
    let own : line_words state line ≡ 1 = own-word state c.args.thread c.args.address R reached.row reached.found refusal in
    let (n, rose, words) = c.word_base.ensures.finds.reads.counted in
    let one = c.in_ok-word-in-Ok.ensures.counts in
    keeps_line state line (λ key. is_kept c.args.cache.now key) (λ key. is_kept c.word_base.new.cache key) c.args.steps.now c.word.new.steps (c.word_base.new.steps - c.args.steps.now) (c.in_ok-word_base.ensures.finds.rules image told) (omega arith) in
    record {
      answers = λ image told.
          let state = now_of c.args.volume.now image in
          let refusal = rw c.in-Ok.is at (c.in_ok-word_base.ensures.refusal image told) in
          let (there, above, aligned) = rw c.in-Ok.is at c.in_ok-word_base.ensures.place in
          let address = word-address c.args.address c.page_of.result c.index_of.result c.page_of.ensures c.index_of.ensures aligned in
          let word = told_since g.D.Disk c.args.volume.now c.word_base.new.volume c.args.disk.now c.word_base.new.disk c.args.steps.now c.word_base.new.steps c.in_ok-word-in-Ok.field-0
          (λ s. word_at s.objects (4096 * c.page_of.result + 8 * c.index_of.result)) c.word_base.ensures.finds.reads c.in_ok-word-in-Ok.ensures.word image told in
          ap (λ r. unless_refused r state (state, Value (word_at state.objects c.args.address))) refusal
          ∙ ap (λ w. (state, Value w)) (ap (λ a. word_at state.objects a) (sym address) ∙ sym word)
          ∙ ap (λ s. (s, Value c.in_ok-word-in-Ok.field-0)) (sym (c.word.ensures.reads.keeps.now image ∙ c.word_base.ensures.finds.reads.keeps.now image));
      slots = search rules;
      backed = λ image told. subst (λ s. AllBacked s c.word_base.new.cache) (sym (c.word.ensures.reads.keeps.now image)) (c.word_base.ensures.finds.backed image told);
      keeps = keeps;
      limit = λ image told. (keeps image told).most;
      reads = reads_then g.D.Disk c.args.volume.now c.word_base.new.volume c.word.new.self c.args.disk.now c.word_base.new.disk c.word.new.disk c.args.steps.now c.word_base.new.steps c.word.new.steps c.word_base.ensures.finds.reads c.word.ensures.reads;
      cause = search rules;
    }

pub returns-in-Err : goal.returns-in-Err
returns-in-Err g c =
    read_call g.D.Disk c.args.volume.now c.word_base.new.volume c.args.cache.now c.word_base.new.cache c.args.disk.now c.word_base.new.disk c.args.steps.now c.word_base.new.steps c.args.thread (call.Load c.args.address) (No c.in-Err.word) tt
    (λ image told.
    let state = now_of c.args.volume.now image in
    ap (λ r. unless_refused r state (state, Value (word_at state.objects c.args.address))) (rw c.in-Err.is at (c.in_ok-word_base.ensures.refusal image told)))
    c.word_base.ensures.finds.backed c.in_ok-word_base.ensures.finds.rules
    (λ image told. no-word (now_of c.args.volume.now image) c.args.thread c.args.address R c.in-Err.word (rw c.in-Err.is at (c.in_ok-word_base.ensures.refusal image told))) c.word_base.ensures.finds.reads

pub returns-in_err-word-in-Ok : goal.returns-in_err-word-in-Ok
returns-in_err-word-in-Ok g c = record {
  answers = search rules;
  slots = search rules;
  backed = λ image told. subst (λ s. AllBacked s c.word_base.new.cache) (sym (c.word.ensures.reads.keeps.now image)) (c.word_base.ensures.finds.backed image told);
  keeps = search rules;
  limit = λ image told.
      let none = c.in_err-word-in-Ok.ensures.counts in
      limit_line (now_of c.args.volume.now image) (record { thread = c.args.thread; call = call.Load c.args.address }) (λ key. is_kept c.args.cache.now key) c.args.steps.now c.word.new.steps (let few = c.word_base.ensures.finds.limit image told in omega arith);
  reads = reads_then g.D.Disk c.args.volume.now c.word_base.new.volume c.word.new.self c.args.disk.now c.word_base.new.disk c.word.new.disk c.args.steps.now c.word_base.new.steps c.word.new.steps c.word_base.ensures.finds.reads c.word.ensures.reads;
  cause = search rules;
}

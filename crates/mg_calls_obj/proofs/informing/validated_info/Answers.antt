use Rattle.mg_access.specs.{LineLemmas.{limit_line, thread_limit, thread_rules}, ReachedLemmas.{any_end, any_hit, any_miss, gone_held}}
use Rattle.mg_access.specs.{ReachedLemmas.{reached_allowed, reached_lives, reached_none}, Searching.allowed_row, ServedLemmas.read_call}
use Rattle.mg_calls_obj.proofs.{InfoReplies.{info-denied, info-known}, Rights.{failed_limit, gone-since, limit-since, no-words, of, searched}}
use Rattle.mg_calls_obj.proofs.{Rights.{taken_more, tries_end, tries_hit, tries_miss, valid-since}, informing.validated_info.Invariants.rights}
use Rattle.mg_model.specs.{Access.allowed, Accesses.{accesses, any_access}, Kept.{KeepsRules, Searches, Validates}}
use Rattle.mg_model.specs.declared.{replies.{Refusal.TheVariants.Denied, Reply.TheVariants.No}, rights.Right.TheVariants.R}
use Rattle.{mg_vcache.specs.Seats.is_kept, mg_volume.specs.{Meaning.now_of, RunLemmas.{reads_then, told_since}}, std.proofs.Common.{◌≡◌, ◌-◌, arith}}
use Rattle.std.{proofs.Common.{get_or, refl, sym, ap, subst, ◌∙◌, rules}, specs.Prelude.map}
use Rattle.mg_model.specs.declared.calls.Call.TheVariants as call
use Rattle.mg_calls_obj.proofs.informing.validated_info.Goals as goal

pub returns-in_err-object : goal.returns-in_err-object
returns-in_err-object g c = record {
  answers = search rules;
  slots = search rules;
  backed = search rules;
  keeps = search rules;
  limit = λ image told.
      let reads = c.loop-right.invariant.reads in
      let (n, low, words) = reads.counted in
      let (m, high, words') = c.reach.ensures.finds.reads.counted in
      let state = now_of c.args.volume.now image in
      let right = get_or rights c.loop-right.right-index R in
      let few = limit-since state (now_of c.loop-right.volume image) (of state c.args.thread c.args.address right) c.args.cache.now c.loop-right.cache c.loop-right.steps c.reach.new.steps (reads.keeps.now image) c.loop-right.invariant.same
      (c.reach.ensures.finds.limit image (reads.writes.same ∙ told)) in
      limit_line state (record { thread = c.args.thread; call = call.Info c.args.address }) (λ key. is_kept c.args.cache.now key) c.args.steps.now c.reach.new.steps
      (thread_limit state c.args.thread (any_access state c.args.thread c.args.address) (λ key. is_kept c.args.cache.now key) c.args.steps.now c.reach.new.steps
      (failed_limit state c.args.thread c.args.address (λ key. is_kept c.args.cache.now key) rights c.loop-right.right-index R c.args.steps.now c.loop-right.steps c.reach.new.steps (omega arith) (omega arith) c.accesses_keep_the_rules_of_a_line.ensures.more
      (c.loop-right.invariant.searches image told) c.loop-right-test.true (c.loop-right.invariant.tries image told) c.accesses_keep_the_rules_of_a_line.ensures.kept few)
      (λ gone.
      let none = gone_held c.args.volume.now image c.args.thread gone in
      c.reach.ensures.finds.nobody (gone-since c.args.volume.now c.loop-right.volume c.args.thread reads.keeps none) ∙ c.loop-right.invariant.nobody none));
  reads = reads_then g.D.Disk c.args.volume.now c.loop-right.volume c.reach.new.volume c.args.disk.now c.loop-right.disk c.reach.new.disk c.args.steps.now c.loop-right.steps c.reach.new.steps c.loop-right.invariant.reads c.reach.ensures.finds.reads;
  cause = search rules;
}

pub returns-in-Some : goal.returns-in-Some
returns-in-Some g c =
    let reads = c.loop-right.invariant.reads in
    read_call g.D.Disk c.args.volume.now c.reach.new.volume c.args.cache.now c.reach.new.cache c.args.disk.now c.reach.new.disk c.args.steps.now c.reach.new.steps c.args.thread (call.Info c.args.address) c.about.result (search rules)
    (λ image told.
    let state = now_of c.args.volume.now image in
    let right = get_or rights c.loop-right.right-index R in
    let found = sym c.in-Some.is ∙ told_since g.D.Disk c.args.volume.now c.loop-right.volume c.args.disk.now c.loop-right.disk c.args.steps.now c.loop-right.steps c.in_ok-object.field-0 (λ s. allowed_row s c.args.thread c.args.address right) reads c.in_ok-object.ensures.row image told in
    let any = sym (any_hit (λ right. allowed state c.args.thread c.args.address right) rights c.loop-right.right-index R c.loop-right-test.true (sym (reached_allowed state c.args.thread c.args.address right c.in-Some.object found)) (c.loop-right.invariant.rest image told)) in
    info-known state c.args.thread c.args.address right c.in-Some.object any found
    ∙ ap (λ reply. (state, reply)) (sym c.about.ensures))
    (λ image told. c.reach.ensures.finds.backed image (reads.writes.same ∙ told))
    (λ image told.
    let (n, low, words) = reads.counted in
    let (m, high, words') = c.reach.ensures.finds.reads.counted in
    let state = now_of c.args.volume.now image in
    let right = get_or rights c.loop-right.right-index R in
    let found = sym c.in-Some.is ∙ told_since g.D.Disk c.args.volume.now c.loop-right.volume c.args.disk.now c.loop-right.disk c.args.steps.now c.loop-right.steps c.in_ok-object.field-0 (λ s. allowed_row s c.args.thread c.args.address right) reads c.in_ok-object.ensures.row image told in
    let may = reached_allowed state c.args.thread c.args.address right c.in-Some.object found in
    let lives = reached_lives state c.args.thread c.args.address right c.in-Some.object found in
    let kept = c.in_ok-object.ensures.finds.keeps image (reads.writes.same ∙ told) in
    let valid = valid-since state (now_of c.loop-right.volume image) (of state c.args.thread c.args.address right) c.args.cache.now c.loop-right.cache (λ key. is_kept c.reach.new.cache key) (c.reach.new.steps - c.loop-right.steps) (reads.keeps.now image) c.loop-right.invariant.same kept in
    let more = searched state c.args.thread c.args.address (λ key. is_kept c.args.cache.now key) rights c.loop-right.right-index R c.args.steps.now c.loop-right.steps c.reach.new.steps (omega arith) (omega arith) c.accesses_keep_the_rules_of_a_line.ensures.more
    (c.loop-right.invariant.searches image told) (λ key. is_kept c.reach.new.cache key) valid in
    let all = subst (λ xs. Searches state (λ key. is_kept c.args.cache.now key) (map (of state c.args.thread c.args.address) xs) (λ key. is_kept c.reach.new.cache key) (c.reach.new.steps - c.args.steps.now))
    (sym (tries_hit state c.args.thread c.args.address rights c.loop-right.right-index R c.loop-right-test.true (c.loop-right.invariant.tries image told) may)) more in
    thread_rules state c.args.thread (any_access state c.args.thread c.args.address) (λ key. is_kept c.args.cache.now key) (λ key. is_kept c.reach.new.cache key) c.args.steps.now c.reach.new.steps c.accesses_keep_the_rules_of_a_line.ensures.kept all (λ gone. cc) (λ gone. cc))
    (λ image told. no-words (now_of c.args.volume.now image) c.args.thread c.args.address)
    (reads_then g.D.Disk c.args.volume.now c.loop-right.volume c.reach.new.volume c.args.disk.now c.loop-right.disk c.reach.new.disk c.args.steps.now c.loop-right.steps c.reach.new.steps reads c.reach.ensures.finds.reads)

pub loop-right-preserved : goal.loop-right-preserved
loop-right-preserved g c =
    let reads = c.loop-right.invariant.reads in
    let (n, low, words) = reads.counted in
    let (m, high, words') = c.reach.ensures.finds.reads.counted in
    let none : c.reach.new.cache ≡ c.loop-right.cache = c.in_ok-object.ensures.finds.none c.in-None.is in
    record {
      reads = reads_then g.D.Disk c.args.volume.now c.loop-right.volume c.reach.new.volume c.args.disk.now c.loop-right.disk c.reach.new.disk c.args.steps.now c.loop-right.steps c.reach.new.steps reads c.reach.ensures.finds.reads;
      same = none ∙ c.loop-right.invariant.same;
      nobody = λ gone. c.reach.ensures.finds.nobody (gone-since c.args.volume.now c.loop-right.volume c.args.thread reads.keeps gone) ∙ c.loop-right.invariant.nobody gone;
      rest = λ image told.
          let state = now_of c.args.volume.now image in
          let right = get_or rights c.loop-right.right-index R in
          let none = sym c.in-None.is ∙ told_since g.D.Disk c.args.volume.now c.loop-right.volume c.args.disk.now c.loop-right.disk c.args.steps.now c.loop-right.steps c.in_ok-object.field-0 (λ s. allowed_row s c.args.thread c.args.address right) reads c.in_ok-object.ensures.row image told in
          any_miss (λ right. allowed state c.args.thread c.args.address right) rights c.loop-right.right-index R c.loop-right-test.true (sym (reached_none state c.args.thread c.args.address right none)) (c.loop-right.invariant.rest image told);
      tries = λ image told.
          let state = now_of c.args.volume.now image in
          let right = get_or rights c.loop-right.right-index R in
          let none = sym c.in-None.is ∙ told_since g.D.Disk c.args.volume.now c.loop-right.volume c.args.disk.now c.loop-right.disk c.args.steps.now c.loop-right.steps c.in_ok-object.field-0 (λ s. allowed_row s c.args.thread c.args.address right) reads c.in_ok-object.ensures.row image told in
          tries_miss state c.args.thread c.args.address rights c.loop-right.right-index R c.loop-right-test.true (c.loop-right.invariant.tries image told) (reached_none state c.args.thread c.args.address right none);
      searches = λ image told.
          let state = now_of c.args.volume.now image in
          let right = get_or rights c.loop-right.right-index R in
          let found = c.in_ok-object.ensures.finds.keeps image (reads.writes.same ∙ told) in
          let valid = valid-since state (now_of c.loop-right.volume image) (of state c.args.thread c.args.address right) c.args.cache.now c.loop-right.cache (λ key. is_kept c.reach.new.cache key) (c.reach.new.steps - c.loop-right.steps) (reads.keeps.now image) c.loop-right.invariant.same found in
          let valid : Validates state (of state c.args.thread c.args.address right) (λ key. is_kept c.args.cache.now key) (λ key. is_kept c.args.cache.now key) (c.reach.new.steps - c.loop-right.steps) =
          subst (λ s. Validates state (of state c.args.thread c.args.address right) (λ key. is_kept c.args.cache.now key) (λ key. is_kept s key) (c.reach.new.steps - c.loop-right.steps)) (none ∙ c.loop-right.invariant.same) valid in
          let more = searched state c.args.thread c.args.address (λ key. is_kept c.args.cache.now key) rights c.loop-right.right-index R c.args.steps.now c.loop-right.steps c.reach.new.steps (omega arith) (omega arith) c.accesses_keep_the_rules_of_a_line.ensures.more
          (c.loop-right.invariant.searches image told) (λ key. is_kept c.args.cache.now key) valid in
          subst (λ xs. Searches state (λ key. is_kept c.args.cache.now key) (map (of state c.args.thread c.args.address) xs) (λ key. is_kept c.args.cache.now key) (c.reach.new.steps - c.args.steps.now)) (taken_more rights c.loop-right.right-index R c.loop-right-test.true) more;
    }

pub returns : goal.returns
returns g c =
    let reads = c.loop-right.invariant.reads in
    read_call g.D.Disk c.args.volume.now c.loop-right.volume c.args.cache.now c.loop-right.cache c.args.disk.now c.loop-right.disk c.args.steps.now c.loop-right.steps c.args.thread (call.Info c.args.address) (No Denied) tt
    (λ image told.
    let state = now_of c.args.volume.now image in
    info-denied state c.args.thread c.args.address (sym (any_end (λ right. allowed state c.args.thread c.args.address right) rights c.loop-right.right-index c.loop-right-test.false (c.loop-right.invariant.rest image told))))
    (search rules)
    (λ image told.
    let state = now_of c.args.volume.now image in
    let all = subst (λ xs. Searches state (λ key. is_kept c.args.cache.now key) (map (of state c.args.thread c.args.address) xs) (λ key. is_kept c.args.cache.now key) (c.loop-right.steps - c.args.steps.now))
    (sym (tries_end state c.args.thread c.args.address rights c.loop-right.right-index c.loop-right-test.false (c.loop-right.invariant.tries image told))) (c.loop-right.invariant.searches image told) in
    subst (λ s. KeepsRules state (accesses state (record { thread = c.args.thread; call = call.Info c.args.address })) (λ key. is_kept c.args.cache.now key) (λ key. is_kept s key) (c.loop-right.steps - c.args.steps.now)) (sym c.loop-right.invariant.same)
    (thread_rules state c.args.thread (any_access state c.args.thread c.args.address) (λ key. is_kept c.args.cache.now key) (λ key. is_kept c.args.cache.now key) c.args.steps.now c.loop-right.steps c.accesses_keep_the_rules_of_a_line.ensures.kept all (λ gone key. refl)
    (λ gone. c.loop-right.invariant.nobody (gone_held c.args.volume.now image c.args.thread gone))))
    (λ image told. no-words (now_of c.args.volume.now image) c.args.thread c.args.address) reads

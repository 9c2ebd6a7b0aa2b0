use Rattle.{mg_access.specs.BackingLemmas.drops_stay, mg_calls_thr.proofs.Ended.{end-done, end-first, end-refused}, mg_model.specs.Threads.end_thread}
use Rattle.{mg_model.specs.declared.replies.Reply.TheVariants.Done, mg_volume.specs.{Meaning.{now_of, threads_in}, RunLemmas.call_made}}
use Rattle.{mg_volume.specs.{RunLemmas.call_refused, StateLemmas.now_threads}, std.proofs.Common.{sym, ap, ◌∙◌, rules}}
use Rattle.mg_model.specs.declared.calls.Call.TheVariants as call
use Rattle.mg_calls_thr.proofs.ending.end.Goals as goal

pub returns-in-Some-clause-does : goal.returns-in-Some-clause-does
returns-in-Some-clause-does c =
    call_refused _ _ _ _ (λ image spelled formed.
    let v = c.args.volume.now in end-refused (now_of v image) (threads_in v) (now_threads v image) c.args.thread c.args.number c.in-Some.word (sym c.in-Some.ensures.word))

pub returns-then-is_first-clause-does : goal.returns-then-is_first-clause-does
returns-then-is_first-clause-does c =
    call_refused _ _ _ _ (λ image spelled formed.
    let v = c.args.volume.now in
    end-first (now_of v image) (threads_in v) (now_threads v image) c.args.thread c.args.number (sym c.is_first.ensures ∙ c.if-is_first.true) (sym c.in-None.ensures.word))

pub returns-else-is_first-clause-does : goal.returns-else-is_first-clause-does
returns-else-is_first-clause-does c =
    call_made _ _ _ _ _ (λ no. no) tt (λ image spelled formed.
    let v = c.args.volume.now in
    end-done (now_of v image) (threads_in v) (now_threads v image) c.args.thread c.args.number (sym c.is_first.ensures ∙ c.if-is_first.false) (sym c.in-None.ensures.word) ∙ ap (λ s. (s, Done)) (sym (c.stage_thread.ensures.now image))) (search rules)

pub returns-in-Some-clause-backed : goal.returns-in-Some-clause-backed
returns-in-Some-clause-backed c =
    let made = call.End c.args.number in
    drops_stay (λ state. end_thread state c.args.thread c.args.number) _ _ _ _ _ _ _ (λ state formed. c.steps_keep_backing.ensures.calls state c.args.thread made formed) (returns-in-Some-clause-does c) (search rules)

pub returns-then-is_first-clause-backed : goal.returns-then-is_first-clause-backed
returns-then-is_first-clause-backed c =
    let made = call.End c.args.number in
    drops_stay (λ state. end_thread state c.args.thread c.args.number) _ _ _ _ _ _ _ (λ state formed. c.steps_keep_backing.ensures.calls state c.args.thread made formed) (returns-then-is_first-clause-does c) (search rules)

pub returns-else-is_first-clause-backed : goal.returns-else-is_first-clause-backed
returns-else-is_first-clause-backed c =
    let made = call.End c.args.number in
    drops_stay (λ state. end_thread state c.args.thread c.args.number) _ _ _ _ _ _ _ (λ state formed. c.steps_keep_backing.ensures.calls state c.args.thread made formed) (returns-else-is_first-clause-does c) (search rules)

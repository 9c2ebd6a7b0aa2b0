use Rattle.{mg_access.specs.{BackingLemmas.drops_stay, ThreadLemmas.{change-gives, told-row}}, mg_calls_dom.proofs.Entered.{leaving, ret-is}}
use Rattle.{mg_model.specs.{Domains.ret, State.Thread, declared.replies.Reply.TheVariants.Count}, mg_volume.specs.Meaning.{now_of, threads_in}}
use Rattle.{mg_volume.specs.RunLemmas.{call_made, call_refused}, std.{proofs.Common.{sym, ap, ◌∙◌, rules}, specs.Prelude.{◌-◌, ◌==◌, find, length}}}
use Rattle.std.specs.Prelude.{None, Some}
use Rattle.mg_model.specs.declared.calls.Call.TheVariants as call
use Rattle.mg_calls_dom.proofs.frames.ret.Goals as goal

pub returns-in-Ok-clause-does : goal.returns-in-Ok-clause-does
returns-in-Ok-clause-does c =
    call_made _ _ _ _ _ (λ no. no) tt (λ image spelled formed.
    let v = c.args.volume.now in
    let row = c.row_of-row.result in
    let now = c.change_frames.ensures.now leaving (change-gives (find (λ (thread : Thread). thread.number == c.args.thread) (threads_in v)) row c.leave.new.row leaving c.row_of-row.ensures (sym c.in-Ok.ensures.row)) image in
    ret-is (now_of v image) c.args.thread row (told-row v image c.args.thread row c.row_of-row.ensures) None (sym c.in-Ok.ensures.refusal)
    ∙ ap (λ s. (s, Count (length row.frames - 1))) (sym now)
    ∙ ap (λ n. (now_of c.change_frames.new.volume image, Count n)) (sym c.in-Ok.ensures.number)) (search rules)

pub returns-in-Err-clause-does : goal.returns-in-Err-clause-does
returns-in-Err-clause-does c =
    call_refused _ _ _ _ (λ image spelled formed.
    ret-is (now_of c.args.volume.now image) c.args.thread c.row_of-row.result (told-row c.args.volume.now image c.args.thread c.row_of-row.result c.row_of-row.ensures) (Some c.in-Err.word) (sym c.in-Err.ensures.refusal))

pub returns-in-Ok-clause-backed : goal.returns-in-Ok-clause-backed
returns-in-Ok-clause-backed c =
    let made = call.Ret in
    drops_stay (λ state. ret state c.args.thread) _ _ _ _ _ _ _ (λ state formed. c.steps_keep_backing.ensures.calls state c.args.thread made formed) (returns-in-Ok-clause-does c) (search rules)

pub returns-in-Err-clause-backed : goal.returns-in-Err-clause-backed
returns-in-Err-clause-backed c =
    let made = call.Ret in
    drops_stay (λ state. ret state c.args.thread) _ _ _ _ _ _ _ (λ state formed. c.steps_keep_backing.ensures.calls state c.args.thread made formed) (returns-in-Err-clause-does c) (search rules)

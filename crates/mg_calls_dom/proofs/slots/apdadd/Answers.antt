use Rattle.{mg_access.specs.{BackingLemmas.same_stay, ThreadLemmas.{change-gives, told-row}}, mg_calls_dom.proofs.SlotCalls.{apdadd-is, slotted}}
use Rattle.mg_model.specs.{Access.last_slots, Domains.apdadd, State.Thread, declared.replies.Reply.TheVariants.Count}
use Rattle.{mg_volume.specs.{Meaning.{now_of, threads_in}, RunLemmas.{call_made, call_refused}}, std.proofs.Common.{sym, ap, ◌∙◌, rules}}
use Rattle.std.specs.Prelude.{◌++◌, ◌∷◌, ◌==◌, [], find, length, None, Some}
use Rattle.mg_model.specs.declared.calls.Call.TheVariants as call
use Rattle.mg_calls_dom.proofs.slots.apdadd.Goals as goal

pub returns-in-Ok-clause-does : goal.returns-in-Ok-clause-does
returns-in-Ok-clause-does c =
    call_made _ _ _ _ _ (λ no. no) tt (λ image spelled formed.
    let v = c.args.volume.now in
    let t = c.args.thread in
    let row = c.row_of-row.result in
    let slots = last_slots row.frames ++ record { base = c.args.clist; password = c.args.password } ∷ [] in
    let now = c.change_thread.ensures.now (slotted slots) (change-gives (find (λ (thread : Thread). thread.number == t) (threads_in v)) row c.push_slot.new.row (slotted slots) c.row_of-row.ensures (sym c.in-Ok.ensures.row)) image in
    apdadd-is (now_of v image) t row (told-row v image t row c.row_of-row.ensures) c.args.clist c.args.password None c.in-Ok.ensures.refusal
    ∙ ap (λ s. (s, Count (length (last_slots row.frames)))) (sym now)
    ∙ ap (λ n. (now_of c.change_thread.new.self image, Count n)) (sym c.in-Ok.ensures.number)) (search rules)

pub returns-in-Err-clause-does : goal.returns-in-Err-clause-does
returns-in-Err-clause-does c =
    call_refused _ _ _ _ (λ image spelled formed.
    let v = c.args.volume.now in
    let row = c.row_of-row.result in
    apdadd-is (now_of v image) c.args.thread row (told-row v image c.args.thread row c.row_of-row.ensures) c.args.clist c.args.password (Some c.in-Err.word) c.in-Err.ensures.refusal)

pub returns-in-Ok-clause-backed : goal.returns-in-Ok-clause-backed
returns-in-Ok-clause-backed c =
    let made = call.Apdadd c.args.clist c.args.password in
    same_stay (λ state. apdadd state c.args.thread c.args.clist c.args.password) _ _ _ _ _ (λ state formed. c.steps_keep_backing.ensures.calls state c.args.thread made formed) (returns-in-Ok-clause-does c)

pub returns-in-Err-clause-backed : goal.returns-in-Err-clause-backed
returns-in-Err-clause-backed c =
    let made = call.Apdadd c.args.clist c.args.password in
    same_stay (λ state. apdadd state c.args.thread c.args.clist c.args.password) _ _ _ _ _ (λ state formed. c.steps_keep_backing.ensures.calls state c.args.thread made formed) (returns-in-Err-clause-does c)

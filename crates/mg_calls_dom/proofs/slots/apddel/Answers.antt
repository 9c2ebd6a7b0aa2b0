use Rattle.{mg_access.specs.{BackingLemmas.drops_stay, ThreadLemmas.{change-gives, told-row}}, mg_calls_dom.proofs.SlotCalls.{apddel-is, slotted}}
use Rattle.{mg_model.specs.{Access.last_slots, Domains.apddel, State.Thread, declared.replies.Reply.TheVariants.Done}, mg_volume.specs.Meaning.now_of}
use Rattle.{mg_volume.specs.{Meaning.threads_in, RunLemmas.{call_made, call_refused}}, std.{proofs.Common.{sym, ap, ◌∙◌, rules}, specs.Prelude.◌++◌}}
use Rattle.std.specs.Prelude.{◌==◌, suc, drop, find, take, None, Some}
use Rattle.mg_model.specs.declared.calls.Call.TheVariants as call
use Rattle.mg_calls_dom.proofs.slots.apddel.Goals as goal

pub returns-in-Ok-clause-does : goal.returns-in-Ok-clause-does
returns-in-Ok-clause-does c =
    call_made _ _ _ _ _ (λ no. no) tt (λ image spelled formed.
    let v = c.args.volume.now in
    let t = c.args.thread in
    let row = c.row_of-row.result in
    let slots = take c.args.index (last_slots row.frames) ++ drop (suc c.args.index) (last_slots row.frames) in
    let now = c.change_thread.ensures.now (slotted slots) (change-gives (find (λ (thread : Thread). thread.number == t) (threads_in v)) row c.drop_slot.new.row (slotted slots) c.row_of-row.ensures (sym c.in-Ok.ensures.row)) image in
    apddel-is (now_of v image) t row (told-row v image t row c.row_of-row.ensures) c.args.index None c.in-Ok.ensures.refusal
    ∙ ap (λ s. (s, Done)) (sym now)) (search rules)

pub returns-in-Err-clause-does : goal.returns-in-Err-clause-does
returns-in-Err-clause-does c =
    call_refused _ _ _ _ (λ image spelled formed.
    let v = c.args.volume.now in
    let row = c.row_of-row.result in
    apddel-is (now_of v image) c.args.thread row (told-row v image c.args.thread row c.row_of-row.ensures) c.args.index (Some c.in-Err.word) c.in-Err.ensures.refusal)

pub returns-in-Ok-clause-backed : goal.returns-in-Ok-clause-backed
returns-in-Ok-clause-backed c =
    let made = call.Apddel c.args.index in
    drops_stay (λ state. apddel state c.args.thread c.args.index) _ _ _ _ _ _ _ (λ state formed. c.steps_keep_backing.ensures.calls state c.args.thread made formed) (returns-in-Ok-clause-does c) (search rules)

pub returns-in-Err-clause-backed : goal.returns-in-Err-clause-backed
returns-in-Err-clause-backed c =
    let made = call.Apddel c.args.index in
    drops_stay (λ state. apddel state c.args.thread c.args.index) _ _ _ _ _ _ _ (λ state formed. c.steps_keep_backing.ensures.calls state c.args.thread made formed) (returns-in-Err-clause-does c) (search rules)

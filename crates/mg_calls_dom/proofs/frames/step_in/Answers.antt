use Rattle.{mg_access.specs.ThreadLemmas.{change-gives, told-row}, mg_apd.specs.Refusals.entered_slots, mg_calls_dom.proofs.Entered.entering}
use Rattle.{mg_calls_dom.proofs.Entered.pdx-is, mg_model.specs.{State.Thread, declared.replies.Reply.TheVariants.Count}}
use Rattle.{mg_volume.specs.Meaning.{now_of, threads_in}, std.{proofs.Common.{sym, ap, ◌∙◌}, specs.Prelude.{◌+◌, ◌==◌, find, length, None, Some}}}
use Rattle.mg_calls_dom.proofs.frames.step_in.Goals as goal

pub returns-in-Ok-clause-answers : goal.returns-in-Ok-clause-answers
returns-in-Ok-clause-answers c image may named =
    let v = c.args.volume.now in
    let t = c.args.thread in
    let row = c.row_of-row.result in
    let object = c.args.object.now in
    let change = entering c.args.address (entered_slots row c.args.mask object.extension) in
    let now = c.change_frames.ensures.now change (change-gives (find (λ (thread : Thread). thread.number == t) (threads_in v)) row c.enter_object.new.row change c.row_of-row.ensures (sym c.in-Ok.ensures.entered)) image in
    pdx-is (now_of v image) t row (told-row v image t row c.row_of-row.ensures) c.args.address c.args.mask object None named may (sym c.in-Ok.ensures.refusal)
    ∙ ap (λ s. (s, Count (length row.frames + 1))) (sym now)
    ∙ ap (λ n. (now_of c.change_frames.new.volume image, Count n)) (sym c.in-Ok.ensures.number)

pub returns-in-Err-clause-answers : goal.returns-in-Err-clause-answers
returns-in-Err-clause-answers c image may named =
    let v = c.args.volume.now in
    let row = c.row_of-row.result in
    pdx-is (now_of v image) c.args.thread row (told-row v image c.args.thread row c.row_of-row.ensures) c.args.address c.args.mask c.args.object.now (Some c.in-Err.word) named may (sym c.in-Err.ensures.refusal)

use Rattle.{mg_access.specs.ThreadLemmas.change-gives, mg_calls_thr.proofs.Ended.resume-by, mg_model.specs.State.{Thread, ThreadRow}}
use Rattle.{mg_model.specs.declared.{replies.Reply.TheVariants.Done, threads.ThrState.TheVariants.Ready}, mg_volume.specs.Meaning.now_of}
use Rattle.{mg_volume.specs.{Meaning.threads_in, RunLemmas.{call_made, call_refused}, StateLemmas.now_threads}, std.proofs.Common.{sym, ap, ◌∙◌}}
use Rattle.std.{proofs.Common.rules, specs.Prelude.{◌==◌, find, None, Some}}
use Rattle.mg_calls_thr.proofs.ending.resume.Goals as goal

pub returns-in-Some : goal.returns-in-Some
returns-in-Some c =
    call_refused _ _ _ _ (λ image spelled formed.
    let v = c.args.volume.now in resume-by (now_of v image) (threads_in v) (now_threads v image) c.args.thread c.args.number (Some c.in-Some.word) (sym c.in-Some.ensures.word))

pub returns-in-None : goal.returns-in-None
returns-in-None c =
    call_made _ _ _ _ _ (λ no. no) tt (λ image spelled formed.
    let v = c.args.volume.now in
    let i = c.args.number in
    let change = λ (thread : ThreadRow). record thread { state = Ready } in
    let now = c.change_thread.ensures.now change (change-gives (find (λ (thread : Thread). thread.number == i) (threads_in v)) c.row_of.result c.ready-row.result change c.row_of.ensures (sym c.ready-row.ensures)) image in
    resume-by (now_of v image) (threads_in v) (now_threads v image) c.args.thread i None (sym c.in-None.ensures.word) ∙ ap (λ s. (s, Done)) (sym now)) (search rules)

use Rattle.{mg_kernel.proofs.Turned.{after-change, after-none, changes-row, no-change, row-lives, row-told, unmapped}, mg_model.specs.State.Thread}
use Rattle.{mg_model.specs.{State.ThreadRow, Turn.as_after}, mg_script.specs.Effects.resumed, mg_volume.specs.Meaning.{now_of, threads_in}}
use Rattle.std.{proofs.Common.{ap, ◌∙◌}, specs.Prelude.{◌==◌, find}}
use Rattle.mg_kernel.proofs.turning.go_on_whole.Goals as goal

pub change_thread-requires-clause-lives : goal.change_thread-requires-clause-lives
change_thread-requires-clause-lives c = row-lives c.args.volume.now c.args.thread c.in-Some.row c.in-Some.ensures.found

pub returns-in-Some-clause-left : goal.returns-in-Some-clause-left
returns-in-Some-clause-left c image =
    let change = λ (row : ThreadRow). resumed c.args.effect.now c.args.reply.now row in
    let held = find (λ (thread : Thread). thread.number == c.args.thread) (threads_in c.args.volume.now) in
    after-change c.args.thread change (now_of c.args.volume.now image) (now_of c.change_thread.new.self image) c.in-Some.row c.resume-row.result c.after.result (row-told c.args.volume.now c.args.thread c.in-Some.row c.in-Some.ensures.found image)
    (c.change_thread.ensures.now change (changes-row c.args.thread change held c.in-Some.row c.resume-row.result c.in-Some.ensures.found c.resume-row.ensures) image) c.resume-row.ensures (c.after.ensures ∙ ap as_after c.state.ensures)

pub returns-in-None-clause-now : goal.returns-in-None-clause-now
returns-in-None-clause-now c image =
    no-change c.args.thread (λ row. resumed c.args.effect.now c.args.reply.now row) c.args.volume.now image (unmapped (find (λ (thread : Thread). thread.number == c.args.thread) (threads_in c.args.volume.now)) c.in-None.ensures.found)

pub returns-in-None-clause-left : goal.returns-in-None-clause-left
returns-in-None-clause-left c image =
    after-none c.args.thread (λ row. resumed c.args.effect.now c.args.reply.now row) c.args.volume.now image (unmapped (find (λ (thread : Thread). thread.number == c.args.thread) (threads_in c.args.volume.now)) c.in-None.ensures.found)

use Rattle.{mg_kernel.proofs.Turned.{after-change, after-none, changes-alike, no-change, row-lives, row-told, unmapped}, mg_model.specs.State.Thread}
use Rattle.{mg_model.specs.State.ThreadRow, mg_script.specs.Effects.{resumed, stood}, mg_volume.specs.Meaning.{now_of, threads_in}}
use Rattle.std.{proofs.Common.sym, specs.Prelude.{◌==◌, find}}
use Rattle.mg_kernel.proofs.turning.go_on.Goals as goal

pub move_thread-requires-clause-lives : goal.move_thread-requires-clause-lives
move_thread-requires-clause-lives c = row-lives c.args.volume.now c.args.thread c.in-Some.row.now c.in-Some.ensures.found

pub returns-in-Some-standing_after-clause-left : goal.returns-in-Some-standing_after-clause-left
returns-in-Some-standing_after-clause-left c image =
    let change = λ (row : ThreadRow). resumed c.args.effect.now c.args.reply.now row in
    let stands = stood c.in-Some-standing_after.stands in
    let row = c.in-Some.row.now in
    let held = find (λ (thread : Thread). thread.number == c.args.thread) (threads_in c.args.volume.now) in
    let same = c.in-Some-standing_after.ensures.value in
    after-change c.args.thread change (now_of c.args.volume.now image) (now_of c.move_thread.new.self image) row (stands row) c.after.result (row-told c.args.volume.now c.args.thread row c.in-Some.ensures.found image)
    (c.move_thread.ensures.now change (changes-alike change stands held row c.in-Some.ensures.found same) image) (sym same) c.after.ensures

pub returns-in-None-clause-now : goal.returns-in-None-clause-now
returns-in-None-clause-now c image =
    no-change c.args.thread (λ row. resumed c.args.effect.now c.args.reply.now row) c.args.volume.now image (unmapped (find (λ (thread : Thread). thread.number == c.args.thread) (threads_in c.args.volume.now)) c.in-None.ensures.found)

pub returns-in-None-clause-left : goal.returns-in-None-clause-left
returns-in-None-clause-left c image =
    after-none c.args.thread (λ row. resumed c.args.effect.now c.args.reply.now row) c.args.volume.now image (unmapped (find (λ (thread : Thread). thread.number == c.args.thread) (threads_in c.args.volume.now)) c.in-None.ensures.found)

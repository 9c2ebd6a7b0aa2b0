use Rattle.{mg_access.specs.ThreadLemmas.told-row, mg_calls_thr.proofs.Made.{born-by, counted-threads, joined, made, make-done, make-full}}
use Rattle.{mg_calls_thr.specs.Making.first_row, mg_model.specs.State.Counters, mg_volume.specs.Meaning.{counters_in, now_of, threads_in}}
use Rattle.{mg_volume.specs.{RunLemmas.{call_made, call_refused}, StateLemmas.{now_counters, now_threads}}, std.proofs.Common.{ap, subst, ◌∙◌, rules}}
use Rattle.std.specs.Prelude.{◌≤◌}
use Rattle.mg_calls_thr.proofs.making.make.Goals as goal

pub returns-in-Some : goal.returns-in-Some
returns-in-Some c =
    call_made _ _ _ _ _ (λ no. no) tt (λ image spelled formed may.
    let v = c.args.volume.now in
    let state = now_of v image in
    let t = c.args.thread in
    let pc = c.args.pc in
    let counters = counters_in v in
    let maker = c.row_of.result in
    let mid = c.stage_globals.new.self in
    let new = c.stage_thread.new.self in
    let (room, number, absent) = c.in-Some.ensures.number in
    let there = told-row v image t maker c.row_of.ensures in
    let early = subst (λ (k : Counters). maker.birth ≤ k.births) (now_counters v image) (born-by state.counters.births t state.threads maker formed.threads.each there) in
    let row = c.first_row-row.ensures ∙ ap (λ births. first_row maker births pc) (c.births.ensures ∙ ap (λ (k : Counters). k.births) c.globals.ensures) in
    let staged = c.stage_globals.ensures.now image ∙ ap (λ (k : Counters). record state { counters = k }) c.counted-counted.ensures in
    let same = counted-threads v mid c.counted-counted.result c.stage_globals.ensures.now in
    let joins = c.stage_thread.ensures.now image ∙ joined (now_of mid image) (threads_in mid) (threads_in v) c.in-Some.number c.first_row-row.result (first_row maker counters.births pc) same absent row in
    make-done state t pc (threads_in v) counters (now_threads v image) (now_counters v image) may room
    ∙ made state t pc (threads_in v) counters (now_threads v image) (now_counters v image) (now_of mid image) (now_of new image) maker c.in-Some.number there early number staged joins) (search rules)

pub returns-in-None : goal.returns-in-None
returns-in-None c =
    call_refused _ _ _ _ (λ image spelled formed may.
    let v = c.args.volume.now in
    make-full (now_of v image) c.args.thread c.args.pc (threads_in v) (counters_in v) (now_threads v image) (now_counters v image) may c.in-None.ensures.number)

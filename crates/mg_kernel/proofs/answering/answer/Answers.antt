use Rattle.{mg_access.specs.Served.{CallServes, of_line}, mg_kernel.proofs.{Counted.{gone-line, held-gone, of-thread}, Served.lives-line}}
use Rattle.mg_kernel.{proofs.{Served.serves_as, Threads.{by-thread, gone}, Turned.{row-lives, row-thread, unmapped}}, specs.Calls.of_living}
use Rattle.{mg_model.specs.{Backed.{KeepsBacked, by_each}, Refused.Answer, Turn.thread_call}, mg_vcache.specs.SeatLemmas.drops_backed}
use Rattle.{mg_vcache.specs.Seats.is_kept, mg_volume.specs.Meaning.now_of, std.proofs.Common.{ap, arith, rules, subst, sym, ◌∙◌}}
use Rattle.mg_model.specs.declared.calls.Call.TheVariants as call
use Rattle.mg_kernel.proofs.answering.answer.Goals as goal

pub dispatch-requires-clause-lives : goal.dispatch-requires-clause-lives
dispatch-requires-clause-lives g c = row-lives c.args.volume.now c.args.line.now.thread _ c.in-Some.ensures.found

pub returns-in-Next : goal.returns-in-Next
returns-in-Next g c =
    let t = c.args.line.now.thread in
    subst (λ made. CallServes 132 g.D.Disk (of_line (record { thread = t; call = made })) c.next.result c.args.volume.now c.next.new.volume c.args.cache.now c.next.new.cache c.args.disk.now c.next.new.disk c.args.steps.now c.next.new.steps) (sym c.in-Next.is) (c.next.ensures t)

pub returns-in-Rent : goal.returns-in-Rent
returns-in-Rent g c = record {
  answers = search rules;
  refused = search rules;
  failed = search rules;
  slots = search rules;
  backed = λ image told.
      let state = now_of c.args.volume.now image in
      let new = now_of c.collect.new.volume image in
      let formed = c.requires.sound.formed image told in
      let answer = c.collect.ensures.does.answers image (c.requires.sound.stands.fits image told) formed in
      let keeps : KeepsBacked by_each state new =
      subst (λ s. KeepsBacked by_each state s) (ap (λ (a : Answer). a.0) answer) (c.steps_keep_backing.ensures.steps state (record { thread = 0; call = call.Rent }) formed) in
      drops_backed by_each state new c.args.cache.now c.collect.new.cache c.collect.result keeps c.collect.ensures.seats (λ refused. ap (λ v. now_of v image) (c.collect.ensures.does.refused refused)) (c.requires.backed image told);
  keeps = search rules;
  limit = search rules;
  serves = search rules;
  cause = search rules;
}

pub returns-in-Some : goal.returns-in-Some
returns-in-Some g c =
    let t = c.args.line.now.thread in
    let made = c.args.line.now.call in
    serves_as 130 132 g.D.Disk (of_living t made) (of_line c.args.line.now) c.dispatch.result c.args.volume.now c.dispatch.new.volume c.args.cache.now c.dispatch.new.cache c.args.disk.now c.dispatch.new.disk c.args.steps.now c.dispatch.new.steps (omega arith)
    (λ image told.
    let state = now_of c.args.volume.now image in
    lives-line state t made (of-thread made state t c.in_default.not-Bad c.in_default.not-Turn c.in_default.not-Next c.in_default.not-Rent) (row-thread c.args.volume.now t _ c.in-Some.ensures.found image))
    c.dispatch.ensures

pub returns-in-None : goal.returns-in-None
returns-in-None g c = record {
  answers = λ image told.
      let state = now_of c.args.volume.now image in
      let t = c.args.line.now.thread in
      let made = c.args.line.now.call in
      by-thread made state t c.in_default.not-Bad c.in_default.not-Turn c.in_default.not-Next c.in_default.not-Rent ∙ gone c.args.volume.now image t (thread_call state t made) (unmapped _ c.in-None.ensures.found);
  refused = search rules;
  failed = search rules;
  slots = search rules;
  backed = search rules;
  keeps = λ image told.
      let state = now_of c.args.volume.now image in
      let t = c.args.line.now.thread in
      let made = c.args.line.now.call in
      gone-line state t made (of-thread made state t c.in_default.not-Bad c.in_default.not-Turn c.in_default.not-Next c.in_default.not-Rent) (λ key. is_kept c.args.cache.now key) c.args.steps.now (held-gone c.args.volume.now image t (unmapped _ c.in-None.ensures.found));
  limit = search rules;
  serves = search rules;
  cause = search rules;
}

use Rattle.mg_access.specs.{ReachedLemmas.{gone_held, reached_allowed, reached_at, reached_lives, reached_none}, Searching.allowed_row}
use Rattle.{mg_access.specs.{Served.of_call, ServedLemmas.{read_call, reads_serves}}, mg_calls_obj.proofs.Doors.{at_door, denied, door-done}}
use Rattle.{mg_calls_obj.{proofs.Doors.{door-limit, door-rules, ends_backed, is-line}, specs.Door.{asked, named}}, mg_model.specs.Access.allowed}
use Rattle.mg_model.specs.{Backed.{KeepsBacked, ended_by_call}, Kept.{KeepsLine, Validates, access_limit}, ObjectCalls.row_at, Refused.Answer}
use Rattle.{mg_model.specs.{State.State, Turn.thread_call, declared.rights.Right.Right}, mg_vcache.specs.Seats.{AllBacked, is_kept}}
use Rattle.{mg_volume.specs.Meaning.now_of, std.{proofs.Common.{arith, sym, ap, subst, ◌∙◌, rules}, specs.{Option.ForSome, Prelude.{◌≡◌, ◌≤◌, ◌+◌}}}}
use Rattle.std.specs.Prelude.{◌-◌, ℕ, None, Some}
use Rattle.mg_calls_obj.proofs.door.on_object.Goals as goal

pub returns-in_err-object : goal.returns-in_err-object
returns-in_err-object g c = record {
  answers = search rules;
  refused = search rules;
  failed = search rules;
  slots = search rules;
  backed = search rules;
  keeps = search rules;
  limit = λ image told.
      let state = now_of c.args.volume.now image in
      let made = c.args.call.now in
      let P : ℕ → Right → Type 0 = λ b r. c.reach.new.steps ≤ c.args.steps.now + access_limit (λ key. is_kept c.args.cache.now key) state (record { thread = c.args.thread; address = b; right = r }) in
      let few = at_door P made c.wanted-place.result c.wanted-place.ensures (c.reach.ensures.finds.limit image told) in
      door-limit state c.args.thread made c.requires.on c.accesses_keep_the_rules_of_a_line.ensures.kept (λ key. is_kept c.args.cache.now key) c.args.steps.now c.reach.new.steps few (λ gone. c.reach.ensures.finds.nobody (gone_held c.args.volume.now image c.args.thread gone));
  serves = search rules;
  cause = search rules;
}

pub returns-in-None : goal.returns-in-None
returns-in-None g c =
    let made = c.args.call.now in
    let t = c.args.thread in
    reads_serves g.D.Disk c.args.volume.now c.reach.new.volume c.args.cache.now c.reach.new.cache c.args.disk.now c.reach.new.disk c.args.steps.now c.reach.new.steps 129 (of_call t made) _
    (read_call g.D.Disk c.args.volume.now c.reach.new.volume c.args.cache.now c.reach.new.cache c.args.disk.now c.reach.new.disk c.args.steps.now c.reach.new.steps t made _ tt
    (λ image told.
    let state = now_of c.args.volume.now image in
    let P : ℕ → Right → Type 0 = λ b r. None ≡ allowed_row state t b r in
    let found = at_door P made c.wanted-place.result c.wanted-place.ensures (sym c.in-None.is ∙ c.in_ok-object.ensures.row image told) in
    denied made state t c.requires.on (reached_none state t (named made) (asked made) found))
    c.reach.ensures.finds.backed
    (λ image told.
    let state = now_of c.args.volume.now image in
    let P : ℕ → Right → Type 0 = λ b r. Validates state (record { thread = t; address = b; right = r }) (λ key. is_kept c.args.cache.now key) (λ key. is_kept c.reach.new.cache key) (c.reach.new.steps - c.args.steps.now) in
    let valid = at_door P made c.wanted-place.result c.wanted-place.ensures (c.in_ok-object.ensures.finds.keeps image told) in
    let same : c.reach.new.cache ≡ c.args.cache.now = c.in_ok-object.ensures.finds.none c.in-None.is in
    door-rules state t made c.requires.on c.accesses_keep_the_rules_of_a_line.ensures.kept (λ key. is_kept c.args.cache.now key) (λ key. is_kept c.reach.new.cache key) c.args.steps.now c.reach.new.steps valid
    (λ gone key. ap (λ s. is_kept s key) same) (λ gone. c.reach.ensures.finds.nobody (gone_held c.args.volume.now image t gone)))
    (λ image told. (is-line made (now_of c.args.volume.now image) t c.requires.on).words) c.reach.ensures.finds.reads)

pub returns-in-Some : goal.returns-in-Some
returns-in-Some g c =
    let answers : ForSome (g.D.Disk.seen c.args.disk.now) (λ image. thread_call (now_of c.args.volume.now image) c.args.thread c.args.call.now ≡ (now_of c.act.new.volume image, c.act.result)) = λ image told.
    let state = now_of c.args.volume.now image in
    let made = c.args.call.now in
    let t = c.args.thread in
    let same = c.reach.ensures.finds.reads.keeps.now image in
    let P : ℕ → Right → Type 0 = λ b r. Some c.in-Some.object ≡ allowed_row state t b r in
    let found = at_door P made c.wanted-place.result c.wanted-place.ensures (sym c.in-Some.is ∙ c.in_ok-object.ensures.row image told) in
    let sound = c.reach.ensures.finds.reads.sound c.requires.sound in
    let now_told = c.reach.ensures.finds.reads.writes.same ∙ told in
    let at = ap (λ (s : State). row_at s (named made)) same ∙ reached_at state t (named made) (asked made) c.in-Some.object found in
    let may = ap (λ s. allowed s t (named made) (asked made)) same ∙ reached_allowed state t (named made) (asked made) c.in-Some.object found in
    let acts = c.act.ensures.does.answers image t (sound.stands.fits image now_told) (sound.formed image now_told) at may in
    ap (λ s. thread_call s t made) (sym same) ∙ acts in
    let keeps : ForSome (g.D.Disk.seen c.args.disk.now) (λ image. KeepsLine (now_of c.args.volume.now image) (record { thread = c.args.thread; call = c.args.call.now }) (λ key. is_kept c.args.cache.now key) (λ key. is_kept c.act.new.cache key) c.args.steps.now c.reach.new.steps) = λ image told.
    let state = now_of c.args.volume.now image in
    let made = c.args.call.now in
    let t = c.args.thread in
    let (n, rose, words) = c.reach.ensures.finds.reads.counted in
    let P : ℕ → Right → Type 0 = λ b r. Some c.in-Some.object ≡ allowed_row state t b r in
    let found = at_door P made c.wanted-place.result c.wanted-place.ensures (sym c.in-Some.is ∙ c.in_ok-object.ensures.row image told) in
    let lives = reached_lives state t (named made) (asked made) c.in-Some.object found in
    let Q : ℕ → Right → Type 0 = λ b r. Validates state (record { thread = t; address = b; right = r }) (λ key. is_kept c.args.cache.now key) (λ key. is_kept c.reach.new.cache key) (c.reach.new.steps - c.args.steps.now) in
    let valid = at_door Q made c.wanted-place.result c.wanted-place.ensures (c.in_ok-object.ensures.finds.keeps image told) in
    let rules = door-rules state t made c.requires.on c.accesses_keep_the_rules_of_a_line.ensures.kept (λ key. is_kept c.args.cache.now key) (λ key. is_kept c.reach.new.cache key) c.args.steps.now c.reach.new.steps valid (λ gone. cc) (λ gone. cc) in
    door-done state t made c.requires.on c.accesses_keep_the_rules_of_a_line.ensures.kept (now_of c.act.new.volume image) c.act.result c.in-Some.object (λ key. is_kept c.args.cache.now key) c.reach.new.cache c.act.new.cache c.args.steps.now c.reach.new.steps (omega arith) lives
    (answers image told) c.act.ensures.seats rules in
    record {
      answers = answers;
      refused = search rules;
      failed = search rules;
      slots = search rules;
      backed = λ image told.
          let state = now_of c.args.volume.now image in
          let mid = now_of c.reach.new.volume image in
          let new = now_of c.act.new.volume image in
          let made = c.args.call.now in
          let t = c.args.thread in
          let same = c.reach.ensures.finds.reads.keeps.now image in
          let P : ℕ → Right → Type 0 = λ b r. Some c.in-Some.object ≡ allowed_row state t b r in
          let found = at_door P made c.wanted-place.result c.wanted-place.ensures (sym c.in-Some.is ∙ c.in_ok-object.ensures.row image told) in
          let at = reached_at state t (named made) (asked made) c.in-Some.object found in
          let answer = answers image told in
          let keeps : KeepsBacked (ended_by_call state t made) state new =
          subst (λ s. KeepsBacked (ended_by_call state t made) state s) (ap (λ (a : Answer). a.0) answer) (c.steps_keep_backing.ensures.calls state t made (c.requires.sound.formed image told)) in
          let all = subst (λ s. AllBacked s c.reach.new.cache) same (c.reach.ensures.finds.backed image told) in
          ends_backed made state new t c.in-Some.object c.reach.new.cache c.act.new.cache c.act.result c.requires.on keeps at c.act.ensures.seats (λ refused. ap (λ w. now_of w image) (c.act.ensures.does.refused refused) ∙ same) all;
      keeps = keeps;
      limit = λ image told. (keeps image told).most;
      serves = search rules;
      cause = search rules;
    }

use Rattle.mg_calls_obj.proofs.{DropsBacked.change_keeps, Rows.{change_gives, pwdel-is, staged-is, without_password}}
use Rattle.mg_model.specs.{ObjectCalls.has_password, State.ObjectRow, declared.replies.Refusal.{Refusal, TheVariants.NoPassword}}
use Rattle.{mg_model.specs.declared.replies.Reply.TheVariants.{Done, No}, mg_volume.specs.{Meaning.{now_of, objects_in}, RunLemmas.call_made}}
use Rattle.{mg_volume.specs.RunLemmas.call_refused, std.{proofs.Common.{refl, sym, ap, ◌∙◌, rules}, specs.{List.list_any, Prelude.{◌≡◌, Bool, true}}}}
use Rattle.std.specs.Prelude.{false, if◌then◌else◌, Result, Ok, Err}
use Rattle.mg_calls_obj.proofs.passwords.pwdel_by_row.Goals as goal

-- what was removed was there
was_there : (has : Bool) (x : Unit {0}) → ◌≡◌ {A = Result (Unit {0}) Refusal} (Ok x) (if has then Ok tt else Err NoPassword) → has ≡ true
was_there true x is = refl
was_there false x is = cc

pub returns-in-Ok-clause-does : goal.returns-in-Ok-clause-does
returns-in-Ok-clause-does c =
    call_made _ _ _ _ _ (λ no. no) tt (λ image t a spelled formed named may.
    let state = now_of c.args.volume.now image in
    let object : ObjectRow = c.args.object in
    let new : ObjectRow = c.remove.new.row in
    let password = c.args.password in
    let has : list_any (λ pw. has_password password pw) object.passwords ≡ true = was_there (list_any (λ pw. has_password password pw) object.passwords) c.in-Ok.field-0 c.in-Ok.ensures.refused in
    let base : new.base ≡ object.base = ap (λ (r : ObjectRow). r.base) c.remove.ensures.list in
    let rows = objects_in c.args.volume.now in
    let now = c.change.ensures.now (without_password password) (change_gives rows rows object new refl c.requires.held base (without_password password) (sym c.remove.ensures.list)) image in
    pwdel-is state t a object named may password true has ∙ staged-is state (now_of c.change.new.self image) object new (without_password password) Done base now) (search rules)

pub returns-in-Ok-clause-others : goal.returns-in-Ok-clause-others
returns-in-Ok-clause-others c = λ image.
    let object : ObjectRow = c.args.object in
    let new : ObjectRow = c.remove.new.row in
    let password = c.args.password in
    let base : new.base ≡ object.base = ap (λ (r : ObjectRow). r.base) c.remove.ensures.list in
    let rows = objects_in c.args.volume.now in
    let now = c.change.ensures.now (without_password password) (change_gives rows rows object new refl c.requires.held base (without_password password) (sym c.remove.ensures.list)) image in
    change_keeps c.objects_end_their_own_seats.ensures.changed (now_of c.args.volume.now image) (now_of c.change.new.self image) new.base object.base (without_password password) (λ row. refl) base now

pub returns-in-Err-clause-others : goal.returns-in-Err-clause-others
returns-in-Err-clause-others c = λ image seat stays backed. backed

-- what could not be removed was not there, and is refused so
was_missing : (has : Bool) (word : Refusal) → ◌≡◌ {A = Result (Unit {0}) Refusal} (Err word) (if has then Ok tt else Err NoPassword) → (has ≡ false) × (word ≡ NoPassword)
was_missing true word is = cc
was_missing false word is = (refl, cc)

pub returns-in-Err-clause-does : goal.returns-in-Err-clause-does
returns-in-Err-clause-does c =
    call_refused _ _ _ _ (λ image t a spelled formed named may.
    let password = c.args.password in
    let object : ObjectRow = c.args.object in
    let missing = was_missing (list_any (λ pw. has_password password pw) object.passwords) c.in-Err.word c.in-Err.ensures.refused in
    let state = now_of c.args.volume.now image in
    pwdel-is state t a object named may password false missing.0 ∙ ap (λ word. (state, No word)) (sym missing.1))

use Rattle.{mg_calls_obj.proofs.Rows.{change_gives, recharge-is, staged-is}, mg_model.specs.State.ObjectRow}
use Rattle.{mg_model.specs.declared.replies.Reply.TheVariants.Done, mg_volume.specs.{Meaning.{now_of, objects_in}, RunLemmas.call_made}}
use Rattle.{mg_volume.specs.{RunLemmas.call_refused, StateLemmas.now_accounts}, std.{proofs.Common.{refl, sym, ap, ◌∙◌, rules}, specs.Prelude.◌≡◌}}
use Rattle.std.specs.Prelude.{Some, None}
use Rattle.mg_calls_obj.proofs.altering.recharge_by_row.Goals as goal

pub returns-in-Some : goal.returns-in-Some
returns-in-Some c =
    call_refused _ _ _ _ (λ image t a spelled formed named may.
    let v = c.args.volume.now in
    recharge-is (now_of v image) t a c.args.object named may v c.args.account c.args.password (Some c.in-Some.word) (now_accounts v image) (sym c.in-Some.is ∙ c.paying_refusal.ensures.word))

pub returns-in-None : goal.returns-in-None
returns-in-None c =
    call_made _ _ _ _ _ (λ no. no) tt (λ image t a spelled formed named may.
    let v = c.args.volume.now in
    let state = now_of v image in
    let object : ObjectRow = c.args.object in
    let account = c.args.account in
    let new : ObjectRow = c.set_account.new.self in
    let change : ObjectRow → ObjectRow = λ r. record r { account = account } in
    let base : new.base ≡ object.base = ap (λ (r : ObjectRow). r.base) c.set_account.ensures in
    let now = c.change.ensures.now change (change_gives (objects_in v) (objects_in v) object new refl c.requires.held base change (sym c.set_account.ensures)) image in
    recharge-is state t a object named may v account c.args.password None (now_accounts v image) (sym c.in-None.is ∙ c.paying_refusal.ensures.word)
    ∙ staged-is state (now_of c.change.new.self image) object new change Done base now) (search rules)
